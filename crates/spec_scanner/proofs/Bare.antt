-- No fault of a text is one of an argument.
use Rattle.std.proofs.Common.{◌≡◌, ℕ, suc, zero, ◌+◌, ◌<◌, ◌&&◌, Bool, true, false, not, if◌then◌else◌, List, [], ◌∷◌, ◌++◌, length, get_or, take, drop, refl, ap, sym, ◌∙◌, subst, arith, Option, Some, None, inl, inr}
use Rattle.std.specs.Bool.{⊤}
use Rattle.std.specs.List.{flat_map}
use Rattle.spec_scanner.specs.declared.fault.Fault.{Fault}
use Rattle.spec_scanner.specs.declared.item.Item.{Item}
use Rattle.spec_scanner.specs.declared.piece.Piece.{Piece}
use Rattle.spec_scanner.specs.declared.signs.Choice.{Choice}
use Rattle.spec_scanner.specs.declared.signs.OptionName.{OptionName}
use Rattle.spec_scanner.specs.declared.fault.SpecFaultKind.{SpecFaultKind}
use Rattle.spec_scanner.specs.declared.fault.SpecFaultKind.TheVariants.{BadOption, BadValue}
use Rattle.spec_scanner.specs.Faults.{fault}
use Rattle.spec_scanner.specs.Options.{BeginsAs, Outset, Pair, Word, clash, clashes, in_force, is_choice, is_new, must_choose, option_of, pair_faults, pairs_of, value_faults, word_faults}
use Rattle.spec_scanner.specs.Labels.{Label, bad_label, define, good_label, labelled, number_of, read_pipelines, read_stage, read_stages, read_text, refer}
use Rattle.spec_scanner.specs.Pieces.{bytes_of, colon_of, end_of, is_good_label, place_of}
use Rattle.spec_scanner.specs.Reads.{AreFaults, IsRefused, body_faults, no_escaped, no_piece, read_items}
use Rattle.spec_scanner.specs.Stretches.{Stretch, cut, is_end, is_ignored, is_separator, trimmed, without_front}

-- each of the faults is none of an argument
abbrev pub AreBare : List Fault → Type 0
AreBare [] = ⊤
AreBare (f ∷ fs) = (f.argument ≡ 0) × AreBare fs

bare_append : (a b : List Fault) → AreBare a → AreBare b → AreBare (a ++ b)
bare_append [] b first second = second
bare_append (f ∷ fs) b first second = (first.0, bare_append fs b first.1 second)

bare_then : (is : Bool) (kind : SpecFaultKind) (place : ℕ) → AreBare (if is then fault kind place ∷ [] else [])
bare_then true kind place = (refl, tt)
bare_then false kind place = tt

bare_else : (is : Bool) (kind : SpecFaultKind) (place : ℕ) → AreBare (if is then [] else fault kind place ∷ [])
bare_else true kind place = tt
bare_else false kind place = (refl, tt)

-- of the options

bare_value : (close : ℕ) (option : Option OptionName) (value : Option Word) → AreBare (value_faults close option value)
bare_value close option None = (refl, tt)
bare_value close option (Some value) = bare_then (must_choose option && not (is_choice value.bytes)) BadValue value.place

bare_pairs : (close : ℕ) (earlier pairs : List Pair) → AreBare (pair_faults close earlier pairs)
bare_pairs close earlier [] = tt
bare_pairs close earlier (pair ∷ pairs) =
    bare_append (word_faults earlier pair) (value_faults close (option_of pair.word.bytes) pair.value ++ pair_faults close (earlier ++ pair ∷ []) pairs)
    (bare_else (is_new earlier (option_of pair.word.bytes)) BadOption pair.word.place)
    (bare_append (value_faults close (option_of pair.word.bytes) pair.value) (pair_faults close (earlier ++ pair ∷ []) pairs)
    (bare_value close (option_of pair.word.bytes) pair.value)
    (bare_pairs close (earlier ++ pair ∷ []) pairs))

bare_clashes : (all choices : List Choice) → AreBare (flat_map (clash all) choices)
bare_clashes all [] = tt
bare_clashes all (choice ∷ choices) = bare_append (clash all choice) (flat_map (clash all) choices) (bare_then _ BadValue choice.place) (bare_clashes all choices)

bare_outset : (text : List ℕ) (outset : Outset) → BeginsAs text outset → AreBare outset.faults
bare_outset text outset (inl none) = subst (λ (o : Outset). AreBare o.faults) (sym none.outset_is) tt
bare_outset text outset (inr (inl unclosed)) = subst (λ (o : Outset). AreBare o.faults) (sym unclosed.outset_is) (refl, tt)
bare_outset text outset (inr (inr some)) =
    subst (λ (o : Outset). AreBare o.faults) (sym some.outset_is)
    (bare_append (pair_faults (suc some.blanks + length some.inside) [] (pairs_of some.words)) (clashes (in_force (pairs_of some.words)))
    (bare_pairs (suc some.blanks + length some.inside) [] (pairs_of some.words))
    (bare_clashes (in_force (pairs_of some.words)) (in_force (pairs_of some.words))))

-- of the body

bare_refer : (labels : List Label) (name : List ℕ) (place end : ℕ) (number : Option ℕ) → AreBare (refer labels name place end number).faults
bare_refer labels name place end None = (refl, tt)
bare_refer labels name place end (Some number) = tt

bare_define : (labels : List Label) (name : List ℕ) (place : ℕ) (items : List Item) (number : Option ℕ) → AreBare (define labels name place items number).faults
bare_define labels name place items None = tt
bare_define labels name place items (Some number) = (refl, tt)

bare_good : (labels : List Label) (name : List ℕ) (place end : ℕ) (items : List Item) → AreBare (good_label labels name place end items).faults
bare_good labels name place end [] = bare_refer labels name place end (number_of labels name)
bare_good labels name place end (item ∷ items) = bare_define labels name place (item ∷ items) (number_of labels name)

bare_bad : (labels : List Label) (place end : ℕ) (items : List Item) → AreBare (bad_label labels place end items).faults
bare_bad labels place end [] = (refl, tt)
bare_bad labels place end (item ∷ items) = (refl, tt)

bare_labelled : (is : Bool) (labels : List Label) (name : List ℕ) (place end : ℕ) (items : List Item) → is_good_label name ≡ is → AreBare (labelled labels name place end items).faults
bare_labelled true labels name place end items is =
    subst (λ b. AreBare (if b then good_label labels name place end items else bad_label labels place end items).faults) (sym is) (bare_good labels name place end items)
bare_labelled false labels name place end items is =
    subst (λ b. AreBare (if b then good_label labels name place end items else bad_label labels place end items).faults) (sym is) (bare_bad labels place end items)

bare_text : (labels : List Label) (items : List Item) (colon : Option ℕ) → AreBare (read_text labels items colon).faults
bare_text labels items None = tt
bare_text labels items (Some colon) =
    bare_labelled (is_good_label (bytes_of (take colon items))) labels (bytes_of (take colon items)) (place_of items 0) (end_of items 0) (without_front (drop (suc colon) items)) refl

bare_stage : (labels : List Label) (closed : ℕ) (items : List Item) → AreBare (read_stage labels closed items).faults
bare_stage labels closed [] = (refl, tt)
bare_stage labels closed (item ∷ items) = bare_text labels (item ∷ items) (colon_of (item ∷ items))

bare_stages : (labels : List Label) (stretches : List Stretch) → AreBare (read_stages labels stretches).faults
bare_stages labels [] = tt
bare_stages labels (stretch ∷ stretches) =
    bare_append (read_stage labels stretch.closed (trimmed stretch.inside)).faults (read_stages (read_stage labels stretch.closed (trimmed stretch.inside)).labels stretches).faults
    (bare_stage labels stretch.closed (trimmed stretch.inside))
    (bare_stages (read_stage labels stretch.closed (trimmed stretch.inside)).labels stretches)

bare_pipelines : (labels : List Label) (pipelines : List Stretch) → AreBare (read_pipelines labels pipelines).faults
bare_pipelines labels [] = tt
bare_pipelines labels (pipeline ∷ pipelines) = by_test (is_ignored pipeline) refl (bare_pipelines labels pipelines)
    (bare_pipelines (read_stages labels (cut is_separator pipeline.inside pipeline.closed)).labels pipelines) where
      by_test : (is : Bool) → is_ignored pipeline ≡ is → AreBare (read_pipelines labels pipelines).faults
          → AreBare (read_pipelines (read_stages labels (cut is_separator pipeline.inside pipeline.closed)).labels pipelines).faults
          → AreBare (read_pipelines labels (pipeline ∷ pipelines)).faults
      by_test true is skipped rest = rw is skipped
      by_test false is skipped rest =
          rw is (bare_append (read_stages labels (cut is_separator pipeline.inside pipeline.closed)).faults
          (read_pipelines (read_stages labels (cut is_separator pipeline.inside pipeline.closed)).labels pipelines).faults
          (bare_stages labels (cut is_separator pipeline.inside pipeline.closed)) rest)

bare_tail : (tail : List ℕ) (size : ℕ) → AreBare (no_escaped tail size)
bare_tail [] size = tt
bare_tail (byte ∷ bytes) size = (refl, tt)

bare_none : (pipelines : List (List Piece)) (size : ℕ) → AreBare (no_piece pipelines size)
bare_none [] size = (refl, tt)
bare_none ([] ∷ pipelines) size = bare_none pipelines size
bare_none ((piece ∷ pieces) ∷ pipelines) size = tt

bare_body : (items : List Item) (tail : List ℕ) (size : ℕ) → AreBare (body_faults items tail size)
bare_body items tail size =
    bare_append (read_items items size).faults (no_escaped tail size ++ no_piece (read_items items size).pipelines size)
    (bare_pipelines [] (cut is_end items size))
    (bare_append (no_escaped tail size) (no_piece (read_items items size).pipelines size) (bare_tail tail size) (bare_none (read_items items size).pipelines size))

-- of a text

bare_faults : (text : List ℕ) (faults : List Fault) → AreFaults text faults → AreBare faults
bare_faults text faults (inl long) = subst AreBare (sym long.1) (refl, tt)
bare_faults text faults (inr (_, inl options)) = subst AreBare (sym options.faults_are) (bare_outset text options.outset options.begins)
bare_faults text faults (inr (_, inr body)) = subst AreBare (sym body.faults_are) (bare_body body.items body.tail (length text))

-- a fault among bare ones is bare
among_bare : (faults : List Fault) (f : Fault) (at : ℕ) → AreBare faults → at < length faults → get_or faults at f ≡ f → f.argument ≡ 0
among_bare [] f at bare below is = absurd (omega (arith, below))
among_bare (g ∷ fs) f zero bare below is = ap (λ (h : Fault). h.argument) (sym is) ∙ bare.0
among_bare (g ∷ fs) f (suc at) bare below is = among_bare fs f at bare.1 (omega (arith, below)) is

-- the least fault of a text is none of an argument
pub refused_bare : (text : List ℕ) (least : Fault) → IsRefused text least → least.argument ≡ 0
refused_bare text least refused =
    let among = refused.least_is.among in
    among_bare refused.faults least among.0 (bare_faults text refused.faults refused.faults_are) among.1 among.2

-- so its number and its place tell it
pub refused_told : (text : List ℕ) (least : Fault) → IsRefused text least → IsRefused text (record { number = least.number; argument = 0; place = least.place })
refused_told text least refused =
    let is : least ≡ record { number = least.number; argument = 0; place = least.place } = λ i. record { number = least.number; argument = refused_bare text least refused i; place = least.place } in
    subst (IsRefused text) is refused
