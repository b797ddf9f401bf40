-- The places of an argument rise below its end.
use Rattle.std.proofs.Common.{◌≡◌, ℕ, zero, suc, ◌<◌, ◌≤◌, Bool, true, false, cond, List, [], ◌∷◌, ◌++◌, length, map, take, drop, refl, sym, ◌∙◌, arith, subst, Option, Some, None, slice_get}
use Rattle.std.specs.Prelude.{⊤}
use Rattle.std.specs.List.{last_or, prefix_len}
use Rattle.std.specs.Option.{option_map_or}
use Rattle.std.proofs.lemmas.List.{length-map}
use Rattle.stage_syntax.specs.Arg.{IsArg, Rise}
use Rattle.spec_scanner.specs.declared.item.Item.{Item}
use Rattle.spec_scanner.specs.declared.piece.Piece.{Piece}
use Rattle.spec_scanner.specs.Labels.{Label, Read, number_of, refer, define, bad_label, good_label, labelled, read_text, read_stage, read_stages, read_pipelines}
use Rattle.spec_scanner.specs.Pieces.{argument, after_word, bytes_of, colon_of, end_of, from_word, is_blank, is_good_label, is_no_blank, place_of}
use Rattle.spec_scanner.specs.Reads.{Reads, read_items}
use Rattle.spec_scanner.specs.Stretches.{Stretch, cut, is_end, is_ignored, is_plain, is_plain_blank, is_separator, put_first, trimmed, without_front}
use Rattle.spec_scanner.proofs.Rising.{Follow, follow}

-- Items in order

-- each begins behind the one before it, the first not below a bound
abbrev Rises : ℕ → List Item → Type 0
Rises bound [] = ⊤
Rises bound (item ∷ items) = (bound ≤ item.place) × (item.place < item.after) × Rises item.after items

-- those that stand side by side do
side_by_side : (at : ℕ) (items : List Item) (end : ℕ) → Follow at items end → Rises at items
side_by_side at [] end is = tt
side_by_side at (item ∷ items) end is = let place = is.0 in (omega (arith, place), omega (arith, place, is.1), side_by_side item.after items end is.2)

-- so they do above a lesser bound
lower : (a b : ℕ) (items : List Item) → a ≤ b → Rises b items → Rises a items
lower a b [] below is = tt
lower a b (item ∷ items) below is = (omega (arith, is.0, below), is.1, is.2)

-- so do the last ones
dropped : (a n : ℕ) (items : List Item) → Rises a items → Rises a (drop n items)
dropped a zero items is = is
dropped a (suc n) [] is = tt
dropped a (suc n) (item ∷ items) is = lower a item.after (drop n items) (omega (arith, is.0, is.1)) (dropped item.after n items is.2)

-- and the first ones
taken : (a n : ℕ) (items : List Item) → Rises a items → Rises a (take n items)
taken a zero items is = tt
taken a (suc n) [] is = tt
taken a (suc n) (item ∷ items) is = (is.0, is.1, taken item.after n items is.2)

in_stage : (a : ℕ) (items : List Item) → Rises a items → Rises a (trimmed items)
in_stage a items is =
    let rest = without_front items in
    taken a _ rest (dropped a (prefix_len is_plain_blank items) items is)

-- Stretches

abbrev EachRises : ℕ → List Stretch → Type 0
EachRises a [] = ⊤
EachRises a (stretch ∷ stretches) = Rises a stretch.inside × EachRises a stretches

lower_each : (a b : ℕ) (stretches : List Stretch) → a ≤ b → EachRises b stretches → EachRises a stretches
lower_each a b [] below is = tt
lower_each a b (stretch ∷ stretches) below is = (lower a b stretch.inside below is.0, lower_each a b stretches below is.1)

with_first : (a : ℕ) (item : Item) (stretches : List Stretch) → a ≤ item.place → item.place < item.after → EachRises item.after stretches → EachRises a (put_first item stretches)
with_first a item [] above long is = tt
with_first a item (stretch ∷ stretches) above long is = ((above, long, is.0), lower_each a item.after stretches (omega (arith, above, long)) is.1)

-- of an item that parts, or else the first of a stretch
cut_one : (b : Bool) (a : ℕ) (item : Item) (rest : List Stretch) → a ≤ item.place → item.place < item.after → EachRises item.after rest →
    EachRises a (cond b (record { inside = []; closed = item.place } ∷ rest) (put_first item rest))
cut_one true a item rest above long is = (tt, lower_each a item.after rest (omega (arith, above, long)) is)
cut_one false a item rest above long is = with_first a item rest above long is

cut_rises : (parts : Item → Bool) (a : ℕ) (items : List Item) (closed : ℕ) → Rises a items → EachRises a (cut parts items closed)
cut_rises parts a [] closed is = (tt, tt)
cut_rises parts a (item ∷ items) closed is = cut_one (parts item) a item (cut parts items closed) is.0 is.1 (cut_rises parts item.after items closed is.2)

-- Arguments

-- the places rise to the end of the last item
to_last : (a : ℕ) (item : Item) (items : List Item) (place : ℕ) → a ≤ item.place → item.place < item.after → Rises item.after items →
    Rise a (map (λ item. item.place) (item ∷ items)) (option_map_or (λ item. item.after) (last_or (Some item) items) place)
to_last a item [] place above long is = (above, long, tt)
to_last a item (next ∷ items) place above long is =
    let rest = to_last item.after next items place is.0 is.1 is.2 in
    (above, omega (arith, long, rest.0, rest.1), (omega (arith, long, rest.0), rest.1, rest.2))

to_end : (a : ℕ) (items : List Item) (place : ℕ) → Rises a items → Rise a (map (λ item. item.place) items) (end_of items place)
to_end a [] place is = tt
to_end a (item ∷ items) place is = to_last a item items place is.0 is.1 is.2

-- above a lesser bound
lower_rise : (a b : ℕ) (ps : List ℕ) (end : ℕ) → a ≤ b → Rise b ps end → Rise a ps end
lower_rise a b [] end below is = tt
lower_rise a b (p ∷ ps) end below is = (omega (arith, below, is.0), is.1, is.2)

-- of the last ones
drop_rise : (a n : ℕ) (items : List Item) (end : ℕ) → Rise a (map (λ item. item.place) items) end → Rise a (map (λ item. item.place) (drop n items)) end
drop_rise a zero items end is = is
drop_rise a (suc n) [] end is = tt
drop_rise a (suc n) (item ∷ items) end is = lower_rise a (suc item.place) (map (λ item. item.place) (drop n items)) end (omega (arith, is.0)) (drop_rise (suc item.place) n items end is.2)

-- an argument of the last ones, which ends with them
is_arg : (items : List Item) (end : ℕ) → Rise 0 (map (λ item. item.place) items) end → IsArg (argument items end)
is_arg items end is = record {
  as_plain = length-map items is_plain ∙ sym (length-map items (λ item. item.byte));
  as_places = length-map items (λ item. item.place) ∙ sym (length-map items (λ item. item.byte));
  rise = is;
}

behind_word : (items : List Item) (place : ℕ) → Rises 0 items → IsArg (argument (after_word items) (end_of items place))
behind_word items place is =
    is_arg (after_word items) (end_of items place)
    (drop_rise 0 (prefix_len is_no_blank (from_word items)) (from_word items) (end_of items place) (drop_rise 0 (prefix_len is_blank items) items (end_of items place) (to_end 0 items place is)))

no_argument : (end : ℕ) → IsArg (argument [] end)
no_argument end = is_arg [] end tt

-- Pieces

abbrev HaveArgs : List Piece → Type 0
HaveArgs [] = ⊤
HaveArgs (piece ∷ pieces) = IsArg piece.arg × HaveArgs pieces

both_have : (front back : List Piece) → HaveArgs front → HaveArgs back → HaveArgs (front ++ back)
both_have [] back a b = b
both_have (piece ∷ front) back a b = (a.0, both_have front back a.1 b)

referred : (labels : List Label) (name : List ℕ) (place end : ℕ) (number : Option ℕ) → HaveArgs (refer labels name place end number).pieces
referred labels name place end None = (no_argument end, tt)
referred labels name place end (Some number) = (no_argument end, tt)

defined : (labels : List Label) (name : List ℕ) (place : ℕ) (items : List Item) (number : Option ℕ) → Rises 0 items → HaveArgs (define labels name place items number).pieces
defined labels name place items (Some number) is = (behind_word items place is, tt)
defined labels name place items None is = (behind_word items place is, tt)

bad : (labels : List Label) (place end : ℕ) (items : List Item) → Rises 0 items → HaveArgs (bad_label labels place end items).pieces
bad labels place end [] is = (no_argument end, tt)
bad labels place end (item ∷ items) is = (behind_word (item ∷ items) place is, tt)

good : (labels : List Label) (name : List ℕ) (place end : ℕ) (items : List Item) → Rises 0 items → HaveArgs (good_label labels name place end items).pieces
good labels name place end [] is = referred labels name place end (number_of labels name)
good labels name place end (item ∷ items) is = defined labels name place (item ∷ items) (number_of labels name) is

with_label : (labels : List Label) (name : List ℕ) (place end : ℕ) (items : List Item) → Rises 0 items → HaveArgs (labelled labels name place end items).pieces
with_label labels name place end items is = by (is_good_label name) where
  by : (b : Bool) → HaveArgs (cond b (good_label labels name place end items) (bad_label labels place end items)).pieces
  by true = good labels name place end items is
  by false = bad labels place end items is

of_text : (labels : List Label) (items : List Item) (colon : Option ℕ) → Rises 0 items → HaveArgs (read_text labels items colon).pieces
of_text labels items None is = (behind_word items (place_of items 0) is, tt)
of_text labels items (Some colon) is =
    let rest = drop (suc colon) items in
    with_label labels (bytes_of (take colon items)) (place_of items 0) (end_of items 0) (without_front rest)
    (dropped 0 (prefix_len is_plain_blank rest) rest (dropped 0 (suc colon) items is))

of_stage : (labels : List Label) (closed : ℕ) (items : List Item) → Rises 0 items → HaveArgs (read_stage labels closed items).pieces
of_stage labels closed [] is = tt
of_stage labels closed (item ∷ items) is = of_text labels (item ∷ items) (colon_of (item ∷ items)) is

of_stages : (labels : List Label) (stretches : List Stretch) → EachRises 0 stretches → HaveArgs (read_stages labels stretches).pieces
of_stages labels [] is = tt
of_stages labels (stretch ∷ stretches) is =
    let first = read_stage labels stretch.closed (trimmed stretch.inside) in
    both_have first.pieces (read_stages first.labels stretches).pieces (of_stage labels stretch.closed (trimmed stretch.inside) (in_stage 0 stretch.inside is.0)) (of_stages first.labels stretches is.1)

abbrev AllHaveArgs : List (List Piece) → Type 0
AllHaveArgs [] = ⊤
AllHaveArgs (pieces ∷ pipelines) = HaveArgs pieces × AllHaveArgs pipelines

-- of a pipeline that is ignored, or read
of_one : (b : Bool) (first : List Piece) (ignored read : List (List Piece)) → HaveArgs first → AllHaveArgs ignored → AllHaveArgs read → AllHaveArgs (cond b ignored (first ∷ read))
of_one true first ignored read has a b = a
of_one false first ignored read has a b = (has, b)

pipelines_of : (b : Bool) (ignored read : Read) → (cond b ignored read).pipelines ≡ cond b ignored.pipelines read.pipelines
pipelines_of true ignored read = refl
pipelines_of false ignored read = refl

of_pipelines : (labels : List Label) (stretches : List Stretch) → EachRises 0 stretches → AllHaveArgs (read_pipelines labels stretches).pipelines
of_pipelines labels [] is = tt
of_pipelines labels (pipeline ∷ pipelines) is =
    let stages = cut is_separator pipeline.inside pipeline.closed in
    let first = read_stages labels stages in
    let rest = read_pipelines first.labels pipelines in
    subst AllHaveArgs (sym (pipelines_of (is_ignored pipeline) (read_pipelines labels pipelines) (record { pipelines = first.pieces ∷ rest.pipelines; labels = rest.labels; faults = first.faults ++ rest.faults })))
    (of_one (is_ignored pipeline) first.pieces (read_pipelines labels pipelines).pipelines rest.pipelines (of_stages labels stages (cut_rises is_separator 0 pipeline.inside pipeline.closed is.0)) (of_pipelines labels pipelines is.1) (of_pipelines first.labels pipelines is.1))

-- of a text

one_has : (pieces : List Piece) (j : ℕ) (piece : Piece) → HaveArgs pieces → slice_get pieces j ≡ Some piece → IsArg piece.arg
one_has [] j piece have at = cc
one_has (p ∷ pieces) zero piece have at = let same : p ≡ piece = cc in subst (λ (q : Piece). IsArg q.arg) same have.0
one_has (p ∷ pieces) (suc j) piece have at = one_has pieces j piece have.1 at

one_of_all : (pipelines : List (List Piece)) (k : ℕ) (pieces : List Piece) → AllHaveArgs pipelines → slice_get pipelines k ≡ Some pieces → HaveArgs pieces
one_of_all [] k pieces have at = cc
one_of_all (p ∷ pipelines) zero pieces have at = let same : p ≡ pieces = cc in subst HaveArgs same have.0
one_of_all (p ∷ pipelines) (suc k) pieces have at = one_of_all pipelines k pieces have.1 at

pub places_rise : (text : List ℕ) (pipelines : List (List Piece)) → Reads text pipelines → (k j : ℕ) (pieces : List Piece) (piece : Piece) →
    slice_get pipelines k ≡ Some pieces → slice_get pieces j ≡ Some piece → IsArg piece.arg
places_rise text pipelines reads k j pieces piece at at_piece =
    let outset = reads.has_body.outset in
    let rises = lower 0 outset.start reads.items (omega arith) (side_by_side outset.start reads.items _ (follow outset.signs outset.start (drop outset.start text) reads.items reads.tail reads.has_body.body)) in
    let all = of_pipelines [] (cut is_end reads.items (length text)) (cut_rises is_end 0 reads.items (length text) rises) in
    one_has pieces j piece (one_of_all (read_items reads.items (length text)).pipelines k pieces all (subst (λ (ps : List (List Piece)). slice_get ps k ≡ Some pieces) reads.pipelines_are at)) at_piece
