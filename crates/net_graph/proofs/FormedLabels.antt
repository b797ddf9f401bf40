-- What the labels' numbers tell of the stands so far.
use Rattle.std.proofs.Common.{◌≡◌, ◌≢◌, ◌⊎◌, inl, inr, ℕ, suc, ◌+◌, ◌≤◌, Bool, true, false, cond, ◌&&◌, List, [], ◌∷◌, ◌++◌, refl, sym, ◌∙◌, ap, subst, arith, Some, None, slice_get, slice_set, length, length-append, length-set, map, append-nil, append_assoc}
use Rattle.std.specs.List.{count_by, position}
use Rattle.std.specs.Option.{option_map_or}
use Rattle.std.proofs.lemmas.List.Elements.{filter-append}
use Rattle.std.proofs.lemmas.List.{map-append}
use Rattle.std.proofs.lemmas.List.Sums.{sum_by-append}
use Rattle.std.proofs.lemmas.Bool.{ne_eqb}
use Rattle.std.proofs.lemmas.Option.{slice_get_within}
use Rattle.pipe_model.proofs.Truths.{not_second}
use Rattle.pipe_model.proofs.Numbers.{equal_or_not, test_same}
use Rattle.pipe_model.proofs.Lists.{get_set_same, get_set_other}
use Rattle.spec_scanner.specs.declared.piece.Piece.{Piece}
use Rattle.spec_scanner.specs.declared.piece.PieceKind.{PieceKind}
use Rattle.spec_scanner.specs.declared.piece.PieceKind.TheVariants.{Stage, Reference, Connector}
use Rattle.net_graph.specs.Stands.{Stand, is_label, is_of_reference, is_of_stage, is_stage, refers_to, stage_of, stages_of, stands_in, stands_of}
use Rattle.net_graph.specs.Numbered.{AreNumbered, AreScanned, IsNumbered, pieces_of, uses_after}
use Rattle.net_graph.proofs.FormedLists.{count_more, get_more}
use Rattle.net_graph.proofs.FormedPositions.{position_new, position_stays, position_still}

-- One stand more

pub stages_with : (done rest : List Stand) (stand : Stand) → is_stage stand ≡ true → stages_of (done ++ stand ∷ rest) ≡ stages_of done ++ stand ∷ stages_of rest
stages_with done rest stand is = filter-append is_stage done (stand ∷ rest) ∙ ap (λ b. stages_of done ++ cond b (stand ∷ stages_of rest) (stages_of rest)) is

pub stages_without : (done rest : List Stand) (stand : Stand) → is_stage stand ≡ false → stages_of (done ++ stand ∷ rest) ≡ stages_of done ++ stages_of rest
stages_without done rest stand is = filter-append is_stage done (stand ∷ rest) ∙ ap (λ b. stages_of done ++ cond b (stand ∷ stages_of rest) (stages_of rest)) is

pub counted_with : {X : Type 0} (p : X → Bool) (done rest : List X) (x : X) → p x ≡ true → count_by p (done ++ x ∷ rest) ≡ count_by p done + suc (count_by p rest)
counted_with p done rest x is = omega (arith, sum_by-append (λ y. cond (p y) 1 0) done (x ∷ rest), count_more p x rest, ap {B = ℕ} (λ b. cond b 1 0) is)

pub counted_without : {X : Type 0} (p : X → Bool) (done rest : List X) (x : X) → p x ≡ false → count_by p (done ++ x ∷ rest) ≡ count_by p done + count_by p rest
counted_without p done rest x is = omega (arith, sum_by-append (λ y. cond (p y) 1 0) done (x ∷ rest), count_more p x rest, ap {B = ℕ} (λ b. cond b 1 0) is)

-- no later use is one of no label
pub none_referred : (stands : List Stand) → count_by (refers_to None) stands ≡ 0
none_referred [] = refl
none_referred (stand ∷ stands) = omega (arith, counted_without (refers_to None) [] stands stand (not_second (is_of_reference stand.piece.kind) false refl), none_referred stands, none)
  where
    none : count_by (refers_to None) [] ≡ 0
    none = refl

-- what a stand of a kind is
pub stage_is : (stand : Stand) → stand.piece.kind ≡ Stage → is_stage stand ≡ true
stage_is stand is = ap is_of_stage is

pub reference_is : (stand : Stand) (l : ℕ) → stand.piece.kind ≡ Reference → stand.piece.label ≡ Some l → refers_to (Some l) stand ≡ true
reference_is stand l is label = ap (λ b. b && is_label (Some l) stand.piece.label) (ap is_of_reference is) ∙ ap (is_label (Some l)) label ∙ test_same l

other_label : (stand : Stand) (l m : ℕ) → stand.piece.label ≡ Some m → l ≢ m → is_label (Some l) stand.piece.label ≡ false
other_label stand l m label apart = ap (is_label (Some l)) label ∙ ne_eqb l m apart

no_label : (stand : Stand) (l : ℕ) → stand.piece.label ≡ None → is_label (Some l) stand.piece.label ≡ false
no_label stand l label = ap (is_label (Some l)) label

no_reference : (stand : Stand) (l : ℕ) → is_of_reference stand.piece.kind ≡ false → refers_to (Some l) stand ≡ false
no_reference stand l is = ap (λ b. b && is_label (Some l) stand.piece.label) is

-- the labels of the stands so far have so many later uses each
pub record Told (done : List Stand) (uses : List ℕ) : Type 0 where
  pub counted : (l c : ℕ) → slice_get uses l ≡ Some c → count_by (refers_to (Some l)) done ≡ c
  pub defined : (l c : ℕ) → slice_get uses l ≡ Some c → (k : ℕ) × (stage_of done (Some l) ≡ Some k)
  pub fresh : (l : ℕ) → length uses ≤ l → stage_of done (Some l) ≡ None
  pub unused : (l : ℕ) → length uses ≤ l → count_by (refers_to (Some l)) done ≡ 0

pub told_nothing : Told [] []
told_nothing = record {
  counted = λ l c is. cc;
  defined = λ l c is. cc;
  fresh = λ l above. refl;
  unused = λ l above. refl;
}

module _ (done : List Stand) (uses : List ℕ) (told : Told done uses) (stand : Stand) where
  -- a stage found so far is found with one stand more
  stays : (l k : ℕ) → stage_of done (Some l) ≡ Some k → stage_of (done ++ stand ∷ []) (Some l) ≡ Some k
  stays l k is =
      rw (filter-append is_stage done (stand ∷ []))
      (position_stays (λ (s : Stand). is_label (Some l) s.piece.label) (stages_of done) (stages_of (stand ∷ [])) k is)

  -- and one that isn't found is not found with a stand of another label
  still : (l : ℕ) → is_label (Some l) stand.piece.label ≡ false → stage_of done (Some l) ≡ None → stage_of (done ++ stand ∷ []) (Some l) ≡ None
  still l other none = go (is_stage stand) refl
    where
      test : Stand → Bool
      test s = is_label (Some l) s.piece.label

      go : (b : Bool) → is_stage stand ≡ b → stage_of (done ++ stand ∷ []) (Some l) ≡ None
      go true is = ap (position (λ (s : Stand). is_label (Some l) s.piece.label)) (stages_with done [] stand is) ∙ position_still (λ (s : Stand). is_label (Some l) s.piece.label) (stages_of done) stand none other
      go false is = ap (position (λ (s : Stand). is_label (Some l) s.piece.label)) (stages_without done [] stand is ∙ append-nil (stages_of done)) ∙ none

  not_counted : (l c : ℕ) → refers_to (Some l) stand ≡ false → count_by (refers_to (Some l)) done ≡ c → count_by (refers_to (Some l)) (done ++ stand ∷ []) ≡ c
  not_counted l c other is = omega (arith, counted_without (refers_to (Some l)) done [] stand other, is)

  -- a stand without a label, or a connector, leaves them
  told_unlabelled : is_of_reference stand.piece.kind ≡ false → stand.piece.label ≡ None → Told (done ++ stand ∷ []) uses
  told_unlabelled kind label = record {
    counted = λ l c is. not_counted l c (no_reference stand l kind) (told.counted l c is);
    defined = λ l c is. (let k = told.defined l c is in (k.0, stays l k.0 k.1));
    fresh = λ l above. still l (no_label stand l label) (told.fresh l above);
    unused = λ l above. not_counted l 0 (no_reference stand l kind) (told.unused l above);
  }

  -- a definition is the next label
  told_defined : stand.piece.kind ≡ Stage → stand.piece.label ≡ Some (length uses) → Told (done ++ stand ∷ []) (uses ++ 0 ∷ [])
  told_defined kind label = record {
    counted = λ l c is. not_counted l c (no_reference stand l (ap is_of_reference kind)) (elim (get_more uses 0 l c is) [
      | inl at ↦ told.counted l c at
      | inr new ↦ told.unused l (omega (arith, new.0)) ∙ sym new.1
    ]);
    defined = λ l c is. elim (get_more uses 0 l c is) [
      | inl at ↦ (let k = told.defined l c at in (k.0, stays l k.0 k.1))
      | inr new ↦ (length (stages_of done), found l new.0)
    ];
    fresh = λ l above. still l (other_label stand l (length uses) label (λ e. absurd (omega (arith, above, e, length-append uses (0 ∷ []))))) (told.fresh l (omega (arith, above, length-append uses (0 ∷ []))));
    unused = λ l above. not_counted l 0 (no_reference stand l (ap is_of_reference kind)) (told.unused l (omega (arith, above, length-append uses (0 ∷ []))));
  } where
    found : (l : ℕ) → l ≡ length uses → stage_of (done ++ stand ∷ []) (Some l) ≡ Some (length (stages_of done))
    found l new =
        ap (position (λ (s : Stand). is_label (Some l) s.piece.label)) (stages_with done [] stand (stage_is stand kind))
        ∙ position_new (λ (s : Stand). is_label (Some l) s.piece.label) (stages_of done) stand [] (told.fresh l (omega (arith, new)))
        (ap (is_label (Some l)) (label ∙ ap Some (sym new)) ∙ test_same l)

  -- a later use is one more of its label
  told_used : stand.piece.kind ≡ Reference → (m c : ℕ) → stand.piece.label ≡ Some m → slice_get uses m ≡ Some c → Told (done ++ stand ∷ []) (slice_set uses m (suc c))
  told_used kind m c label here = record {
    counted = λ l d is. each l d is (equal_or_not l m);
    defined = λ l d is. (let k = old l d is (equal_or_not l m) in (k.0, stays l k.0 k.1));
    fresh = λ l above. still l (other_label stand l m label (past l above)) (told.fresh l (omega (arith, above, length-set uses m (suc c))));
    unused = λ l above. not_counted l 0 (unlike l (past l above)) (told.unused l (omega (arith, above, length-set uses m (suc c))));
  } where
    unlike : (l : ℕ) → l ≢ m → refers_to (Some l) stand ≡ false
    unlike l apart = not_second (is_of_reference stand.piece.kind) (is_label (Some l) stand.piece.label) (other_label stand l m label apart)

    past : (l : ℕ) → length (slice_set uses m (suc c)) ≤ l → l ≢ m
    past l above e = absurd (omega (arith, above, e, length-set uses m (suc c), slice_get_within uses m c here))

    each : (l d : ℕ) → slice_get (slice_set uses m (suc c)) l ≡ Some d → (l ≡ m) ⊎ (l ≢ m) → count_by (refers_to (Some l)) (done ++ stand ∷ []) ≡ d
    each l d is (inl same) =
        let new : Some (suc c) ≡ Some d = sym (get_set_same uses m (suc c) c here) ∙ ap (slice_get (slice_set uses m (suc c))) (sym same) ∙ is in
        let d_is : suc c ≡ d = cc in
        omega (arith, d_is, counted_with (refers_to (Some l)) done [] stand (reference_is stand l kind (label ∙ ap Some (sym same))), told.counted l c (ap (slice_get uses) same ∙ here))
    each l d is (inr apart) = not_counted l d (unlike l apart) (told.counted l d (sym (get_set_other uses m l (suc c) apart) ∙ is))

    old : (l d : ℕ) → slice_get (slice_set uses m (suc c)) l ≡ Some d → (l ≡ m) ⊎ (l ≢ m) → (k : ℕ) × (stage_of done (Some l) ≡ Some k)
    old l d is (inl same) = told.defined l c (ap (slice_get uses) same ∙ here)
    old l d is (inr apart) = told.defined l d (sym (get_set_other uses m l (suc c) apart) ∙ is)

  -- with one stand more that is numbered
  pub told_more : (kind : PieceKind) → stand.piece.kind ≡ kind → IsNumbered uses stand.piece kind → Told (done ++ stand ∷ []) (uses_after uses kind stand.piece.label)
  told_more Stage kind (inl none, uses_is) = subst (λ x. Told (done ++ stand ∷ []) (uses_after uses Stage x)) (sym none) (told_unlabelled (ap is_of_reference kind) none)
  told_more Stage kind (inr next, uses_is) = subst (λ x. Told (done ++ stand ∷ []) (uses_after uses Stage x)) (sym next) (told_defined kind next)
  told_more Reference kind numbered =
      subst (λ x. Told (done ++ stand ∷ []) (uses_after uses Reference x)) (sym numbered.label_is)
      (subst (λ x. Told (done ++ stand ∷ []) (option_map_or (λ count. slice_set uses numbered.label (suc count)) x uses)) (sym numbered.defined)
      (told_used kind numbered.label numbered.count numbered.label_is numbered.defined))
  told_more Connector kind numbered = told_unlabelled (ap is_of_reference kind) numbered.0

-- Each stand is numbered after those before it

pieces_in : (first : Bool) (pieces : List Piece) → map (λ (s : Stand). s.piece) (stands_in first pieces) ≡ pieces
pieces_in first [] = refl
pieces_in first (piece ∷ []) = refl
pieces_in first (piece ∷ (next ∷ pieces)) = ap (λ ps. piece ∷ ps) (pieces_in false (next ∷ pieces))

pub pieces_are : (pipelines : List (List Piece)) → map (λ (s : Stand). s.piece) (stands_of pipelines) ≡ pieces_of pipelines
pieces_are [] = refl
pieces_are (pipeline ∷ pipelines) =
    map-append (λ (s : Stand). s.piece) (stands_in true pipeline) (stands_of pipelines)
    ∙ ap (λ ps. ps ++ map (λ (s : Stand). s.piece) (stands_of pipelines)) (pieces_in true pipeline)
    ∙ ap (λ ps. pipeline ++ ps) (pieces_are pipelines)

numbered_from : (done between rest : List Stand) (stand : Stand) (uses : List ℕ) → Told done uses
    → AreNumbered uses (map (λ (s : Stand). s.piece) (between ++ stand ∷ rest))
    → (now : List ℕ) × Told (done ++ between) now × IsNumbered now stand.piece stand.piece.kind
numbered_from done [] rest stand uses told numbered = (uses, subst (λ xs. Told xs uses) (sym (append-nil done)) told, numbered.0)
numbered_from done (s ∷ between) rest stand uses told numbered =
    let r = numbered_from (done ++ s ∷ []) between rest stand (uses_after uses s.piece.kind s.piece.label) (told_more done uses told s s.piece.kind refl numbered.0) numbered.1 in
    (r.0, subst (λ xs. Told xs r.0) (append_assoc done (s ∷ []) between) r.1, r.2)

pub numbered_at : (pipelines : List (List Piece)) (done rest : List Stand) (stand : Stand) → AreScanned pipelines → stands_of pipelines ≡ done ++ stand ∷ rest
    → (uses : List ℕ) × Told done uses × IsNumbered uses stand.piece stand.piece.kind
numbered_at pipelines done rest stand scanned cut =
    numbered_from [] done rest stand [] told_nothing (subst (AreNumbered []) (sym (pieces_are pipelines) ∙ ap (map (λ (s : Stand). s.piece)) cut) scanned)
