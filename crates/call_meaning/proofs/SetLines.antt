-- The lines of a file of sets, and their nets.
use Rattle.std.proofs.Common.{◌≡◌, ◌⊎◌, ℕ, zero, suc, ◌+◌, ◌<◌, ◌≤◌, Bool, true, false, cond, ◌||◌, List, [], ◌∷◌, length, refl, sym, ◌∙◌, ap, subst, arith, Some, slice_get, inl, inr, le_trans}
use Rattle.std.specs.List.{flat_map}
use Rattle.std.proofs.lemmas.Bool.{cases_order}
use Rattle.std.proofs.lemmas.List.Folds.{list_any-append}
use Rattle.std.proofs.lemmas.List.Sums.{sum_by-append}
use Rattle.std.proofs.lemmas.Nat.{mul-le}
use Rattle.outside.specs.Files.{Files}
use Rattle.pipe_model.specs.Records.{lines}
use Rattle.pipe_model.specs.Table.{line_of}
use Rattle.pipe_model.specs.declared.net.Net.{Net}
use Rattle.pipe_model.specs.declared.net.Strand.{Strand}
use Rattle.net_graph.specs.Fed.{reads_any, reads_input}
use Rattle.call_words.specs.declared.command.Command.TheVariants.{Sets}
use Rattle.call_meaning.specs.Effects.{Before}
use Rattle.call_meaning.specs.Meaning.{AreNetsOf, IsNetOf, RunsSets, fed_size, file_size, files_size, input_limit}
use Rattle.call_meaning.specs.Meaning.AreNetsOf.{no_line, line_refused, line_read}
use Rattle.call_meaning.specs.Sets.{AreFew, all_of}
use Rattle.call_meaning.proofs.OneTexts.{net_unrefused, one_net}

-- How many lines there may be

-- fewer lines than few are few
few_below : (steps fewer count : ℕ) → fewer ≤ count → AreFew steps count → AreFew steps fewer
few_below steps fewer count below few =
    let less = mul-le fewer steps count steps below (omega arith) in
    let lines_few = few.0 in
    let steps_few = few.1 in
    (omega (arith, below, lines_few), omega (arith, less, steps_few))

-- so lines that are more than the most aren't
pub few_or_many : (steps most count : ℕ) → ¬ AreFew steps (suc most) → most < count → AreFew steps count → ⊥
few_or_many steps most count many more few = many (few_below steps (suc most) count more few)

-- and one number is the most
pub most_same : (steps most most' : ℕ) → AreFew steps most → ¬ AreFew steps (suc most) → AreFew steps most' → ¬ AreFew steps (suc most') → most ≡ most'
most_same steps most most' few many few' many' = by (cases_order most most')
  where
    by : (most ≡ most') ⊎ ((most < most') ⊎ (most' < most)) → most ≡ most'
    by (inl same) = same
    by (inr (inl less)) = absurd (few_or_many steps most most' many less few')
    by (inr (inr more)) = absurd (few_or_many steps most' most many' more few)

-- What the words run

-- words run the lines of one file at most
pub sets_same : (words : List (List ℕ)) (files : Files) (specs specs' : List (List ℕ)) (steps steps' workers workers' : ℕ) → RunsSets words files specs steps workers → RunsSets words files specs' steps' workers' →
    (specs ≡ specs') × (steps ≡ steps') × (workers ≡ workers')
sets_same words files specs specs' steps steps' workers workers' first second =
    let both : Some (Sets first.name workers steps) ≡ Some (Sets second.name workers' steps') = sym first.command ∙ second.command in
    let name : first.name ≡ second.name = cc in
    let texts : Some first.text ≡ Some second.text = sym first.stored ∙ ap files name ∙ second.stored in
    let text : first.text ≡ second.text = cc in
    (sym first.lines_are ∙ ap lines text ∙ second.lines_are, cc, cc)

-- The nets of lines

-- lines have one list of nets
pub nets_same : (specs : List (List ℕ)) (nets nets' : List Net) → AreNetsOf specs nets → AreNetsOf specs nets' → nets ≡ nets'
nets_same _ _ _ no_line no_line = refl
nets_same _ _ _ (line_refused spec fault least specs nets more) (line_refused spec' fault' least' specs' nets' more') = nets_same specs nets nets' more more'
nets_same _ _ _ (line_refused spec fault least specs nets more) (line_read spec' net is specs' nets' more') = absurd (net_unrefused spec net fault is least)
nets_same _ _ _ (line_read spec net is specs nets more) (line_refused spec' fault least specs' nets' more') = absurd (net_unrefused spec net fault is least)
nets_same _ _ _ (line_read spec net is specs nets more) (line_read spec' net' is' specs' nets' more') =
    ap (λ (z : Net). z ∷ nets) (one_net spec net net' is is') ∙ ap (λ (zs : List Net). net' ∷ zs) (nets_same specs nets nets' more more')

-- the net of a line is one of them
net_among : (specs : List (List ℕ)) (nets : List Net) → AreNetsOf specs nets → (k : ℕ) (spec : List ℕ) (net : Net) → slice_get specs k ≡ Some spec → IsNetOf spec net → (j : ℕ) × (slice_get nets j ≡ Some net)
net_among _ _ no_line k spec net at is = cc
net_among _ _ (line_refused first fault least specs nets more) zero spec net at is = (let same : spec ≡ first = cc in absurd (net_unrefused first net fault (subst (λ z. IsNetOf z net) same is) least))
net_among _ _ (line_refused first fault least specs nets more) (suc k) spec net at is = net_among specs nets more k spec net at is
net_among _ _ (line_read first other other_is specs nets more) zero spec net at is = (let same : spec ≡ first = cc in (0, ap Some (one_net first other net other_is (subst (λ z. IsNetOf z net) same is))))
net_among _ _ (line_read first other other_is specs nets more) (suc k) spec net at is = (let found = net_among specs nets more k spec net at is in (suc found.0, found.1))

-- What the nets are fed

-- what two are fed is no less than what each is
first_part : (a b : Bool) (x s t : ℕ) → cond a x 0 + s ≤ cond (a || b) x 0 + (s + t)
first_part true b x s t = omega arith
first_part false true x s t = omega arith
first_part false false x s t = omega arith

other_part : (a b : Bool) (x s t : ℕ) → cond b x 0 + t ≤ cond (a || b) x 0 + (s + t)
other_part true true x s t = omega arith
other_part true false x s t = omega arith
other_part false b x s t = omega arith

module _ (before : Before) where
  abbrev all_size : List Net → ℕ
  all_size nets = fed_size before (all_of nets)

  cons_size : (net : Net) (nets : List Net) →
      all_size (net ∷ nets) ≡ cond (reads_any net || reads_any (all_of nets)) (length before.input) 0 + (files_size before.files net + files_size before.files (all_of nets))
  cons_size net nets =
      let rest = flat_map (λ (n : Net). n.strands) nets in
      ap (λ reads. cond reads (length before.input) 0 + files_size before.files (all_of (net ∷ nets))) (list_any-append (λ (p : Strand). reads_input p.kind) net.strands rest)
      ∙ ap (λ size. cond (reads_any net || reads_any (all_of nets)) (length before.input) 0 + size) (sum_by-append (λ (p : Strand). file_size before.files (line_of p.kind).feed) net.strands rest)

  first_size : (net : Net) (nets : List Net) → fed_size before net ≤ all_size (net ∷ nets)
  first_size net nets =
      subst (λ size. fed_size before net ≤ size) (sym (cons_size net nets))
      (first_part (reads_any net) (reads_any (all_of nets)) (length before.input) (files_size before.files net) (files_size before.files (all_of nets)))

  others_size : (net : Net) (nets : List Net) → all_size nets ≤ all_size (net ∷ nets)
  others_size net nets =
      subst (λ size. all_size nets ≤ size) (sym (cons_size net nets))
      (other_part (reads_any net) (reads_any (all_of nets)) (length before.input) (files_size before.files net) (files_size before.files (all_of nets)))

  each_size : (nets : List Net) (j : ℕ) (net : Net) → slice_get nets j ≡ Some net → fed_size before net ≤ all_size nets
  each_size [] j net at = cc
  each_size (first ∷ nets) zero net at = (let same : first ≡ net = cc in subst (λ (z : Net). fed_size before z ≤ all_size (first ∷ nets)) same (first_size first nets))
  each_size (first ∷ nets) (suc j) net at = le_trans (each_size nets j net at) (others_size first nets)

  -- where those of all fit, those of a line do
  pub line_fits : (specs : List (List ℕ)) (nets : List Net) → AreNetsOf specs nets → all_size nets ≤ input_limit →
      (k : ℕ) (spec : List ℕ) (net : Net) → slice_get specs k ≡ Some spec → IsNetOf spec net → fed_size before net ≤ input_limit
  line_fits specs nets are fit k spec net at is = (let found = net_among specs nets are k spec net at is in le_trans (each_size nets found.0 net found.1) fit)
