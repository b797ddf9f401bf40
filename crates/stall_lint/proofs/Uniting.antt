-- Labels of which one takes the place of another, link by link.
use Rattle.std.proofs.Common.{◌≡◌, ◌⊎◌, inl, inr, ℕ, ◌<◌, ◌+◌, Bool, true, false, cond, ◌&&◌, ◌==◌, List, length, refl, sym, ◌∙◌, ap, subst, arith, Some, slice_get, slice_index, eq-eqb}
use Rattle.std.proofs.lemmas.Bool.{ne_eqb}
use Rattle.std.proofs.lemmas.Option.{get_or_from_slice_get, slice_get-get_or, slice_get_within}
use Rattle.pipe_model.specs.declared.net.Net.{Net}
use Rattle.pipe_model.specs.declared.net.Link.{Link}
use Rattle.pipe_model.specs.State.{Who, link_into, same}
use Rattle.pipe_model.specs.WellFormed.{IsWellFormed}
use Rattle.pipe_model.proofs.Lists.{at_some, found_at}
use Rattle.pipe_model.proofs.Numbers.{equal_or_not}
use Rattle.stall_lint.specs.Grouped.{AreInner, AreLabels}
use Rattle.stall_lint.specs.Groups.{InOneGroup, IsFollowed, IsInner}
use Rattle.stall_lint.specs.Groups.InOneGroup.{alone, down, up}
use Rattle.stall_lint.specs.Groups.IsFollowed.{at_join, onward}
use Rattle.stall_lint.specs.Relabelled.{relabelled}
use Rattle.stall_lint.proofs.Trails.{group_on}

-- strands of one label are of one group, and the first n links join strands of one label where they are marked
pub record AreUnited (net : Net) (inner : List Bool) (n : ℕ) (labels : List ℕ) : Type 0 where
  pub count : length labels ≡ length net.strands
  pub within : (s : Who) → s < length net.strands → slice_index labels s < length net.strands
  pub one : (s t : Who) → s < length net.strands → t < length net.strands → slice_index labels s ≡ slice_index labels t → InOneGroup net s t
  pub linked : (j : ℕ) (l : Link) → j < n → slice_get net.links j ≡ Some l → slice_get inner j ≡ Some true → slice_index labels l.from ≡ slice_index labels l.to

-- where each strand has its own number none is joined yet
pub none_united : (net : Net) (inner : List Bool) (labels : List ℕ) → length labels ≡ length net.strands → ((k : ℕ) → k < length net.strands → slice_index labels k ≡ k) → AreUnited net inner 0 labels
none_united net inner labels count own = record {
  count = count;
  within = λ s lt. (let is = own s lt in omega (arith, is, lt));
  one = λ s t lt_s lt_t e. (let same_strand : s ≡ t = sym (own s lt_s) ∙ e ∙ own t lt_t in subst (InOneGroup net s) same_strand alone);
  linked = λ j l lt. absurd (omega (arith, lt));
}

-- a label that is lost becomes the one that is kept, and any other stays
relabelling : (lost kept label : ℕ) → ((label ≡ lost) × (relabelled lost kept label ≡ kept)) ⊎ (relabelled lost kept label ≡ label)
relabelling lost kept label = elim (equal_or_not label lost) [
  | inl it ↦ inl (it, ap (λ b. cond b kept label) (eq-eqb label lost it))
  | inr other ↦ inr (ap (λ b. cond b kept label) (ne_eqb label lost other))
]

-- a label that is a place's
label_at : (labels : List ℕ) (s label : ℕ) → slice_get labels s ≡ Some label → (s < length labels) × (slice_index labels s ≡ label)
label_at labels s label at = (slice_get_within labels s label at, get_or_from_slice_get labels s label 0 at)

-- both ends of a link are strands of the net
pub ends_there : (net : Net) → IsWellFormed net → (n : ℕ) (l : Link) → slice_get net.links n ≡ Some l → (l.from < length net.strands) × (l.to < length net.strands)
ends_there net formed n l at = (let joined = formed.joined n l at in (slice_get_within net.strands l.from joined.producer joined.from_strand, slice_get_within net.strands l.to joined.consumer joined.to_strand))

module _ (net : Net) (formed : IsWellFormed net) (inner : List Bool) (n : ℕ) (labels : List ℕ) (united : AreUnited net inner n labels) (l : Link) (at : slice_get net.links n ≡ Some l) where
  -- a link that isn't inner joins nothing
  pub not_united : slice_get inner n ≡ Some false → AreUnited net inner (n + 1) labels
  not_united unmarked = record { count = united.count; within = united.within; one = united.one; linked = linked }
    where
      linked : (j : ℕ) (k : Link) → j < n + 1 → slice_get net.links j ≡ Some k → slice_get inner j ≡ Some true → slice_index labels k.from ≡ slice_index labels k.to
      linked j k lt at_j marked = elim (equal_or_not j n) [
        | inl it ↦ (let z : Some false ≡ Some true = sym unmarked ∙ ap (slice_get inner) (sym it) ∙ marked in cc)
        | inr other ↦ united.linked j k (omega (arith, lt, other)) at_j marked
      ]

  -- an inner one joins those of the label at its one end with those of the label at its other
  pub now_united : AreInner net inner → slice_get inner n ≡ Some true → (new : List ℕ) → length new ≡ length labels →
      ((k : ℕ) → k < length labels → slice_index new k ≡ relabelled (slice_index labels l.from) (slice_index labels l.to) (slice_index labels k)) → AreUnited net inner (n + 1) new
  now_united are marked new count each = record { count = count ∙ united.count; within = within; one = one; linked = linked }
    where
      lost : ℕ
      lost = slice_index labels l.from

      kept : ℕ
      kept = slice_index labels l.to

      ends : (l.from < length net.strands) × (l.to < length net.strands)
      ends = ends_there net formed n l at

      is_inner : IsInner net l
      is_inner = are.marked n l at marked

      new_at : (s : Who) → s < length net.strands → slice_index new s ≡ relabelled lost kept (slice_index labels s)
      new_at s lt = (let long = united.count in each s (omega (arith, lt, long)))

      within : (s : Who) → s < length net.strands → slice_index new s < length net.strands
      within s lt = elim (relabelling lost kept (slice_index labels s)) [
        | inl to_kept ↦ (let is = new_at s lt in let less = united.within l.to ends.1 in omega (arith, is, to_kept.1, less))
        | inr stays ↦ (let is = new_at s lt in let less = united.within s lt in omega (arith, is, stays, less))
      ]

      one : (s t : Who) → s < length net.strands → t < length net.strands → slice_index new s ≡ slice_index new t → InOneGroup net s t
      one s t lt_s lt_t e = elim (relabelling lost kept (slice_index labels s)) [
        | inl s_lost ↦ elim (relabelling lost kept (slice_index labels t)) [
          | inl t_lost ↦ united.one s t lt_s lt_t (s_lost.0 ∙ sym t_lost.0)
          | inr t_stays ↦
              group_on net s l.from t (united.one s l.from lt_s ends.0 s_lost.0)
              (group_on net l.from l.to t (down l is_inner alone) (united.one l.to t ends.1 lt_t (sym (new_at s lt_s ∙ s_lost.1) ∙ e ∙ new_at t lt_t ∙ t_stays)))
        ]
        | inr s_stays ↦ elim (relabelling lost kept (slice_index labels t)) [
          | inl t_lost ↦
              group_on net s l.to t (united.one s l.to lt_s ends.1 (sym (new_at s lt_s ∙ s_stays) ∙ e ∙ new_at t lt_t ∙ t_lost.1))
              (group_on net l.to l.from t (up l is_inner alone) (united.one l.from t ends.0 lt_t (sym t_lost.0)))
          | inr t_stays ↦ united.one s t lt_s lt_t (sym (new_at s lt_s ∙ s_stays) ∙ e ∙ new_at t lt_t ∙ t_stays)
        ]
      ]

      -- both ends have the label that is kept
      from_kept : relabelled lost kept lost ≡ kept
      from_kept = ap (λ b. cond b kept lost) (eq-eqb lost lost refl)

      to_kept : relabelled lost kept kept ≡ kept
      to_kept = elim (relabelling lost kept kept) [ inl changed ↦ changed.1 | inr stays ↦ stays ]

      linked : (j : ℕ) (k : Link) → j < n + 1 → slice_get net.links j ≡ Some k → slice_get inner j ≡ Some true → slice_index new k.from ≡ slice_index new k.to
      linked j k lt at_j marked_j = elim (equal_or_not j n) [
        | inl it ↦
            let same_link : l ≡ k = (let z : Some l ≡ Some k = sym at ∙ ap (slice_get net.links) (sym it) ∙ at_j in cc) in
            subst (λ (z : Link). slice_index new z.from ≡ slice_index new z.to) same_link (new_at l.from ends.0 ∙ from_kept ∙ sym (new_at l.to ends.1 ∙ to_kept))
        | inr other ↦
            let there = ends_there net formed j k at_j in
            new_at k.from there.0 ∙ ap (relabelled lost kept) (united.linked j k (omega (arith, lt, other)) at_j marked_j) ∙ sym (new_at k.to there.1)
      ]

-- an inner link is a link of the net
pub inner_there : (net : Net) (l : Link) → IsInner net l → (j : ℕ) × (slice_get net.links j ≡ Some l)
inner_there net l inner = by inner.followed
  where
    there : (s i : ℕ) → link_into net s i ≡ Some l → (j : ℕ) × (slice_get net.links j ≡ Some l)
    there s i e = (found_at (λ k. same k.to s && k.input == i) net.links e).1

    by : IsFollowed net inner.join inner.parts l → (j : ℕ) × (slice_get net.links j ≡ Some l)
    by (at_join i e) = there inner.join i e
    by (onward t p stands apart here thin e) = there t 0 e

-- where all links are joined so the labels tell the groups
pub all_united : (net : Net) → IsWellFormed net → (inner : List Bool) → AreInner net inner → (n : ℕ) → length net.links ≡ n → (labels : List ℕ) → AreUnited net inner n labels → AreLabels net labels
all_united net formed inner are n all labels united = record {
  count = united.count;
  within = λ s label at. (let is = label_at labels s label at in let long = united.count in let less = united.within s (omega (arith, is.0, long)) in omega (arith, less, is.1));
  one = λ s t label at_s at_t. (
      let is_s = label_at labels s label at_s in
      let is_t = label_at labels t label at_t in
      let long = united.count in
      united.one s t (omega (arith, is_s.0, long)) (omega (arith, is_t.0, long)) (is_s.1 ∙ sym is_t.1));
  same = λ s t label other at_s at_t chain. (let z : Some label ≡ Some other = sym (along s label at_s t chain) ∙ at_t in cc);
}
  where
    linked : (l : Link) → IsInner net l → slice_get labels l.from ≡ slice_get labels l.to
    linked l inner_l =
        let j = inner_there net l inner_l in
        let ends = ends_there net formed j.0 l j.1 in
        let long = united.count in
        slice_get-get_or labels l.from 0 (let from = ends.0 in omega (arith, from, long)) ∙ ap Some (by_mark j.0 j.1 (slice_get_within net.links j.0 l j.1)) ∙ sym (slice_get-get_or labels l.to 0 (let to = ends.1 in omega (arith, to, long)))
      where
        by_mark : (j : ℕ) → slice_get net.links j ≡ Some l → j < length net.links → slice_index labels l.from ≡ slice_index labels l.to
        by_mark j at lt = (let count = are.count in let b = at_some inner j (omega (arith, lt, count)) in marked b.0 b.1)
          where
            marked : (b : Bool) → slice_get inner j ≡ Some b → slice_index labels l.from ≡ slice_index labels l.to
            marked true is = united.linked j l (omega (arith, lt, all)) at is
            marked false is = absurd (are.unmarked j l at is inner_l)

    along : (s : Who) (label : ℕ) → slice_get labels s ≡ Some label → (t : Who) → InOneGroup net s t → slice_get labels t ≡ Some label
    along s label at _ alone = at
    along s label at _ (down l inner_l rest) = sym (linked l inner_l) ∙ along s label at l.from rest
    along s label at _ (up l inner_l rest) = linked l inner_l ∙ along s label at l.to rest
