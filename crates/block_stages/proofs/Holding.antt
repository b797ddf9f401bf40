-- What is still to be given, as more comes, as it is given, and at the end of input.
use Rattle.std.proofs.Common.{◌≡◌, ℕ, zero, suc, Bool, true, false, ◌+◌, ◌<◌, ◌≤◌, List, [], ◌∷◌, ◌++◌, length, map, take, drop, replicate, refl, sym, ◌∙◌, ap, subst, arith, Option, Some, None, length-append}
use Rattle.std.specs.List.{concat}
use Rattle.std.proofs.lemmas.List.{append-nil, map-append, drop-append-le, drop-take, length-drop, append_assoc}
use Rattle.std.proofs.lemmas.List.Folds.{concat-append}
use Rattle.std.proofs.Math.Seq.{drop-append_seam, take-append_seam}
use Rattle.pipe_model.specs.declared.kind.Image.{Image}
use Rattle.pipe_model.specs.BlockRows.{image_of, some_rest, filled}
use Rattle.pipe_model.specs.Counts.{all_on, earlier}
use Rattle.pipe_model.specs.Parts.{without_last, last_part}
use Rattle.pipe_model.specs.Row.{Act}
use Rattle.pipe_model.specs.Row.Act.{Writes}
use Rattle.pipe_model.specs.Search.{begins}
use Rattle.pipe_model.specs.Shape.{Records, Stream, acts_of, last_pairs, writes}
use Rattle.stage_steps.specs.Lists.{IsSpent, Tells}
use Rattle.block_stages.specs.declared.blocks.Blocks.{Blocks}
use Rattle.block_stages.specs.declared.blocks.Rest.TheVariants.{Growing}
use Rattle.block_stages.specs.declared.cuts.Cut.{Cut}
use Rattle.block_stages.specs.declared.cuts.Cuts.{Cuts}
use Rattle.block_stages.specs.declared.cuts.Cuts.TheVariants.{Every, At, ByLengths}
use Rattle.block_stages.specs.Blocks.{BlocksStand, text_by, parts_so_far, pending, is_over, IsStreamOf, ArePending, TellsEnd}
use Rattle.block_stages.specs.Cutting.{parts_by, rest_by, stops_by, code_by, IsFirst, IsSearched}
use Rattle.block_stages.proofs.AtString.{begins_stays}
use Rattle.block_stages.proofs.Firsts.{first_by}
use Rattle.block_stages.proofs.Growing.{without_behind, last_behind, some_parts, first_part, lone_part, grows_on}

-- Records

earlier_end : (recs : Records) (rec : List ℕ) → earlier (recs ++ rec ∷ []) ≡ recs
earlier_end recs rec = ap (λ n. take n (recs ++ rec ∷ [])) (omega (arith, length-append recs (rec ∷ []))) ∙ take-append_seam recs (rec ∷ [])

text_end : (image : Image) (recs : Records) (rec : List ℕ) → text_by image (recs ++ rec ∷ []) ≡ text_by image recs ++ image_of image rec
text_end image recs rec =
    ap concat (map-append (image_of image) recs (rec ∷ []))
    ∙ concat-append (map (image_of image) recs) (image_of image rec ∷ [])
    ∙ ap (λ last. text_by image recs ++ last) (append-nil (image_of image rec))

no_acts : (parts : Records) → [] ≡ writes (all_on 0 parts) → parts ≡ []
no_acts [] none = refl
no_acts (p ∷ parts) none = cc none

-- Parts

module _ (cuts : Cuts) where
  abbrev parts : List ℕ → Records
  parts = parts_by cuts

  some : (text : List ℕ) → (p : List ℕ) × (ps : Records) × (parts text ≡ p ∷ ps)
  some text = some_parts parts (first_by cuts) text

  -- the last part of all is that of what is pending
  last_same : (all text : List ℕ) (acts : List Act) → ArePending cuts all text acts → last_part (parts all) ≡ last_part (parts text)
  last_same all text acts are = ap last_part are.1 ∙ last_behind are.0 (parts text) (some text)

  pub tells_end : (all text : List ℕ) (acts : List Act) → ArePending cuts all text acts → TellsEnd cuts all text
  tells_end all text acts are = record {
    stops_same = ap (stops_by cuts) (sym (last_same all text acts are));
    code_same = ap (code_by cuts) (sym (last_same all text acts are));
  }

  -- where nothing is left to be given, what is pending is the last part of all
  lone : (all text : List ℕ) → ArePending cuts all text [] → parts text ≡ text ∷ []
  lone all text are = lone_part parts (first_by cuts) text (no_acts (without_last (parts text)) are.2)

  pub last_pending : (all text : List ℕ) → ArePending cuts all text [] → last_part (parts all) ≡ text
  last_pending all text are = last_same all text [] are ∙ ap last_part (lone all text are)

  -- when more comes
  pub more_pending : (all text more : List ℕ) → ArePending cuts all text [] →
      ArePending cuts (all ++ more) (text ++ more) (writes (all_on 0 (drop (length (without_last (parts all))) (without_last (parts (all ++ more))))))
  more_pending all text more are =
      let given = are.0 in
      let before : without_last (parts all) ≡ given =
      ap without_last are.1 ∙ without_behind given (parts text) (some text) ∙ ap (λ ps. given ++ ps) (no_acts (without_last (parts text)) are.2) ∙ append-nil given in
      let whole : parts (all ++ more) ≡ given ++ parts (text ++ more) =
      grows_on parts (first_by cuts) all more ∙ ap (λ ps. ps ++ parts (last_part (parts all) ++ more)) before ∙ ap (λ last. given ++ parts (last ++ more)) (last_pending all text are) in
      let added : drop (length (without_last (parts all))) (without_last (parts (all ++ more))) ≡ without_last (parts (text ++ more)) =
      ap (λ ps. drop (length ps) (without_last (parts (all ++ more)))) before
      ∙ ap (λ ps. drop (length given) (without_last ps)) whole
      ∙ ap (drop (length given)) (without_behind given (parts (text ++ more)) (some (text ++ more)))
      ∙ drop-append_seam given (without_last (parts (text ++ more))) in
      (given, whole, ap (λ ps. writes (all_on 0 ps)) added)

  -- when one is given
  pub one_given : (all text : List ℕ) (acts : List Act) (c : Cut) → ArePending cuts all text acts → IsFirst parts text (Some c) →
      (rest : List Act) × (acts ≡ Writes 0 (take c.size (drop c.from text)) ∷ rest) × ArePending cuts all (drop c.next text) rest
  one_given all text acts c are is =
      let given = are.0 in
      let part = take c.size (drop c.from text) in
      let behind = drop c.next text in
      let cut : parts text ≡ part ∷ parts behind = first_part parts (first_by cuts) text c is in (
        writes (all_on 0 (without_last (parts behind))),
        are.2 ∙ ap (λ ps. writes (all_on 0 (without_last ps))) cut ∙ ap (λ ps. writes (all_on 0 ps)) (without_behind (part ∷ []) (parts behind) (some behind)),
        (given ++ part ∷ [], are.1 ∙ ap (λ ps. given ++ ps) cut ∙ sym (append_assoc given (part ∷ []) (parts behind)), refl),
      )

  -- when none is complete
  pub none_given : (all text : List ℕ) (acts : List Act) → ArePending cuts all text acts → IsFirst parts text None → (acts ≡ []) × ArePending cuts all text []
  none_given all text acts are is =
      let none : acts ≡ [] = are.2 ∙ ap (λ ps. writes (all_on 0 (without_last ps))) is in
      (none, (are.0, are.1, sym none ∙ are.2))

-- where none is complete and it goes on, nothing is left
pub none_left : (x : Blocks) → x.rest ≡ Growing → Tells BlocksStand x false (λ t recs. t.stops recs) → IsFirst (parts_by x.cuts) (pending x) None → IsSpent BlocksStand x
none_left x growing goes_on none true t recs acts is = absurd (let over = is.2 in let before = ap is_over growing in cc (over, before))
none_left x growing goes_on none false t recs acts is = ((none_given x.cuts (text_by x.image recs) (pending x) acts is.3.0 none).0, sym (goes_on false t recs acts is))

-- Places that were searched

pub more_searched : (cuts : Cuts) (searched : ℕ) (text more : List ℕ) → IsSearched cuts searched text → IsSearched cuts searched (text ++ more)
more_searched (Every size fill) searched text more vain = tt
more_searched (At string) searched text more vain = λ k below.
    let fits = (vain k below).0 in (
      omega (arith, fits, length-append text more),
      ap (begins string) (drop-append-le k text more (omega (arith, fits))) ∙ begins_stays string (drop k text) more (omega (arith, fits, length-drop k text)) ∙ (vain k below).1,
    )
more_searched ByLengths searched text more vain = tt

pub none_searched : (cuts : Cuts) (text : List ℕ) → IsSearched cuts 0 text
none_searched (Every size fill) text = tt
none_searched (At string) text = λ k below. absurd (omega (arith, below))
none_searched ByLengths text = tt

-- A record

pub seen : (image : Image) (cuts : Cuts) (t : Stream) (recs : Records) (rec text new : List ℕ) (searched : ℕ) → IsStreamOf image cuts t → ArePending cuts (text_by image recs) text [] → IsSearched cuts searched text →
    new ≡ text ++ image_of image rec → ArePending cuts (text_by image (recs ++ rec ∷ [])) new (acts_of t.outs (recs ++ rec ∷ [])) × IsSearched cuts searched new
seen image cuts t recs rec text new searched is are vain new_is =
    let more = image_of image rec in
    let all = text_by image recs in
    let size : List ℕ → Records → ℕ = λ whole so_far. length (without_last (parts_so_far image cuts so_far)) in
    let acts : acts_of t.outs (recs ++ rec ∷ []) ≡ writes (all_on 0 (drop (length (without_last (parts_by cuts all))) (without_last (parts_by cuts (all ++ more))))) =
    is.outs_are (recs ++ rec ∷ [])
    ∙ ap (λ so_far. writes (all_on 0 (drop (length (without_last (parts_so_far image cuts so_far))) (without_last (parts_so_far image cuts (recs ++ rec ∷ [])))))) (earlier_end recs rec)
    ∙ ap (λ whole. writes (all_on 0 (drop (length (without_last (parts_by cuts all))) (without_last (parts_by cuts whole))))) (text_end image recs rec) in (
      subst (λ whole. ArePending cuts whole new (acts_of t.outs (recs ++ rec ∷ []))) (sym (text_end image recs rec))
          (subst (λ pending. ArePending cuts (all ++ more) pending (acts_of t.outs (recs ++ rec ∷ []))) (sym new_is)
          (subst (ArePending cuts (all ++ more) (text ++ more)) (sym acts) (more_pending cuts all text more are))),
      subst (IsSearched cuts searched) (sym new_is) (more_searched cuts searched text more vain),
    )

-- The end of input

module _ (image : Image) (cuts : Cuts) (t : Stream) (recs : Records) (text : List ℕ) (is : IsStreamOf image cuts t) (are : ArePending cuts (text_by image recs) text []) where
  pub last_acts : writes (last_pairs t.last recs) ≡ writes (all_on 0 (rest_by cuts text))
  last_acts = ap writes (is.last_is recs) ∙ ap (λ rest. writes (all_on 0 (rest_by cuts rest))) (last_pending cuts (text_by image recs) text are)

-- an empty rest isn't given
pub no_rest : (cuts : Cuts) → rest_by cuts [] ≡ []
no_rest (Every size fill) = refl
no_rest (At string) = refl
no_rest ByLengths = refl

-- another is
pub some_rest_is : (text : List ℕ) → 0 < length text → some_rest text ≡ text ∷ []
some_rest_is [] some = absurd (omega (arith, some))
some_rest_is (b ∷ text) some = refl

-- filled up to its size

enough : (n m byte : ℕ) (text : List ℕ) → n ≤ m → take n (text ++ replicate m byte) ≡ take n (text ++ replicate n byte)
enough zero m byte text more = refl
enough (suc n) zero byte [] more = absurd (omega (arith, more))
enough (suc n) (suc m) byte [] more = ap (λ rest. byte ∷ rest) (enough n m byte [] (omega (arith, more)))
enough (suc n) m byte (b ∷ text) more = ap (λ rest. b ∷ rest) (enough n m byte text (omega (arith, more)) ∙ sym (enough n (suc n) byte text (omega arith)))

pub filled_is : (front size byte : ℕ) (text : List ℕ) → front ≤ length text → drop front (take (front + size) (text ++ replicate (front + size) byte)) ≡ filled size (Some byte) (drop front text)
filled_is front size byte text within =
    drop-take front size (text ++ replicate (front + size) byte)
    ∙ ap (take size) (drop-append-le front text (replicate (front + size) byte) within)
    ∙ enough size (front + size) byte (drop front text) (omega arith)

-- What is given at the end of input, by the way in which it was cut

pub tells_every : (cuts : Cuts) (size : ℕ) (fill : Option ℕ) (all text : List ℕ) → cuts ≡ Every size fill → TellsEnd cuts all text
tells_every cuts size fill all text is = subst (λ cuts. TellsEnd cuts all text) (sym is) (record { stops_same = refl; code_same = refl })

pub rest_filled : (cuts : Cuts) (size : ℕ) (fill : Option ℕ) (text : List ℕ) → cuts ≡ Every size fill → 0 < length text → rest_by cuts text ≡ filled size fill text ∷ []
rest_filled cuts size fill text is some = ap (λ cuts. rest_by cuts text) is ∙ ap (map (filled size fill)) (some_rest_is text some)

pub rest_at : (cuts : Cuts) (string text : List ℕ) → cuts ≡ At string → 0 < length text → rest_by cuts text ≡ text ∷ []
rest_at cuts string text is some = ap (λ cuts. rest_by cuts text) is ∙ some_rest_is text some

pub rest_of_lengths : (cuts : Cuts) (text : List ℕ) → cuts ≡ ByLengths → rest_by cuts text ≡ []
rest_of_lengths cuts text is = ap (λ cuts. rest_by cuts text) is
