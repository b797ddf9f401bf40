-- The next strands on the walks from thin strands, found link by link.
use Rattle.std.proofs.Common.{◌≡◌, inl, inr, ℕ, ◌+◌, ◌≤◌, ◌<◌, Bool, true, false, cond, ◌&&◌, ◌==◌, List, length, replicate, refl, sym, ◌∙◌, ap, arith, Option, Some, None, slice_get, slice_set, length-set, get_or-set_same, get_or-set_other}
use Rattle.std.proofs.lemmas.Bool.{cases_lt}
use Rattle.std.proofs.lemmas.List.{length-replicate}
use Rattle.std.proofs.lemmas.Option.{slice_get_past, slice_get_within, unwrap_or-slice_get}
use Rattle.std.specs.Prelude.{unwrap_or}
use Rattle.pipe_model.specs.declared.net.Net.{Net}
use Rattle.pipe_model.specs.declared.net.Link.{Link}
use Rattle.pipe_model.specs.declared.net.Strand.{Strand}
use Rattle.pipe_model.specs.Settled.{fork, from_of, next_on_walk, or_else, producer_at, rounds, thin_at}
use Rattle.pipe_model.specs.State.{Who, link_into, nothing_yet, same, strand_in}
use Rattle.pipe_model.specs.WellFormed.{IsWellFormed}
use Rattle.pipe_model.proofs.Lists.{found_at, read_copy}
use Rattle.pipe_model.proofs.Numbers.{equal_or_not}
use Rattle.confluence_laws.proofs.Basics.{from_in}
use Rattle.confluence_laws.proofs.Forks.{none_at_first, rounds_long}
use Rattle.braid_check.specs.Walks.{AreNexts, Nexts, next_at}
use Rattle.stall_lint.specs.WalksBack.{AreForks}
use Rattle.stall_lint.proofs.Backwards.{on_from, thin_link}

-- the next strands of thin strands to which one of the first n links leads, and of no others
pub record AreLed (net : Net) (n : ℕ) (nexts : Nexts) : Type 0 where
  pub count : length nexts ≡ length net.strands
  pub only : (t u : Who) → next_at nexts t ≡ Some u → on_from net t ≡ Some u
  pub all : (j : ℕ) (l : Link) → j < n → slice_get net.links j ≡ Some l → thin_at (strand_in net l.to) ≡ true → next_at nexts l.to ≡ Some l.from

pub none_led : (net : Net) (nexts : Nexts) → nexts ≡ replicate (length net.strands) None → AreLed net 0 nexts
none_led net nexts is = record {
  count = ap length is ∙ length-replicate {A = Option Who} (length net.strands) None;
  only = λ t u e. (let z : None ≡ Some u = sym (ap (λ xs. next_at xs t) is ∙ read_copy (length net.strands) None t) ∙ e in cc);
  all = λ j l lt. absurd (omega (arith, lt));
}

module _ (net : Net) (formed : IsWellFormed net) where
  module _ (n : ℕ) (nexts : Nexts) (led : AreLed net n nexts) (l : Link) (at : slice_get net.links n ≡ Some l) where
    -- a link to a strand that isn't thin leads no walk on
    pub not_led : thin_at (strand_in net l.to) ≡ false → AreLed net (n + 1) nexts
    not_led thick = record { count = led.count; only = led.only; all = all }
      where
        all : (j : ℕ) (k : Link) → j < n + 1 → slice_get net.links j ≡ Some k → thin_at (strand_in net k.to) ≡ true → next_at nexts k.to ≡ Some k.from
        all j k lt at_j thin = elim (equal_or_not j n) [
          | inl it ↦
              let one : k ≡ l = (let z : Some k ≡ Some l = sym at_j ∙ ap (slice_get net.links) it ∙ at in cc) in
              let z : true ≡ false = sym thin ∙ ap (λ (m : Link). thin_at (strand_in net m.to)) one ∙ thick in
              cc
          | inr other ↦ led.all j k (omega (arith, lt, other)) at_j thin
        ]

    pub now_led : thin_at (strand_in net l.to) ≡ true → AreLed net (n + 1) (slice_set nexts l.to (Some l.from))
    now_led thin = record { count = length-set nexts l.to (Some l.from) ∙ led.count; only = only; all = all }
      where
        there : l.to < length nexts
        there = (let joined = formed.joined n l at in let lt = slice_get_within net.strands l.to joined.consumer joined.to_strand in let count = led.count in omega (arith, lt, count))

        into : (j : ℕ) (k : Link) → slice_get net.links j ≡ Some k → thin_at (strand_in net k.to) ≡ true → link_into net k.to 0 ≡ Some k
        into j k at_j thin_k = by_strand (strand_in net k.to) refl thin_k
          where
            by_strand : (m : Option Strand) → strand_in net k.to ≡ m → thin_at m ≡ true → link_into net k.to 0 ≡ Some k
            by_strand None is q = cc
            by_strand (Some p) is q = thin_link net formed j k at_j p is q

        here : (k : Link) → k.to ≡ l.to → link_into net k.to 0 ≡ Some k → k ≡ l
        here k to e = (let z : Some k ≡ Some l = sym e ∙ ap (λ s. link_into net s 0) to ∙ into n l at thin in cc)

        only : (t u : Who) → next_at (slice_set nexts l.to (Some l.from)) t ≡ Some u → on_from net t ≡ Some u
        only t u e = elim (equal_or_not t l.to) [
          | inl it ↦
              ap (on_from net) it ∙ ap (λ b. cond b (producer_at net l.to 0) None) thin ∙ ap from_of (into n l at thin)
              ∙ sym (get_or-set_same nexts l.to (Some l.from) None there) ∙ ap (next_at (slice_set nexts l.to (Some l.from))) (sym it) ∙ e
          | inr other ↦ led.only t u (sym (get_or-set_other nexts l.to t (Some l.from) None other) ∙ e)
        ]

        all : (j : ℕ) (k : Link) → j < n + 1 → slice_get net.links j ≡ Some k → thin_at (strand_in net k.to) ≡ true → next_at (slice_set nexts l.to (Some l.from)) k.to ≡ Some k.from
        all j k lt at_j thin_k = elim (equal_or_not k.to l.to) [
          | inl to ↦ ap (next_at (slice_set nexts l.to (Some l.from))) to ∙ get_or-set_same nexts l.to (Some l.from) None there ∙ ap (λ (m : Link). Some m.from) (sym (here k to (into j k at_j thin_k)))
          | inr apart ↦ elim (equal_or_not j n) [
            | inl it ↦ (let z : Some k ≡ Some l = sym at_j ∙ ap (slice_get net.links) it ∙ at in let one : k ≡ l = cc in absurd (apart (ap (λ (m : Link). m.to) one)))
            | inr other ↦ get_or-set_other nexts l.to k.to (Some l.from) None apart ∙ led.all j k (omega (arith, lt, other)) at_j thin_k
          ]
        ]

  -- after all links walks go on from thin strands as they do before it is known where any ways part
  pub all_led : (n : ℕ) (nexts : Nexts) → length net.links ≡ n → AreLed net n nexts → AreNexts net 0 nexts
  all_led n nexts whole led = record { count = led.count; each = λ t. by_next t (next_at nexts t) refl ∙ sym (ap (λ z. or_else z (on_from net t)) (none_at_first net t)) }
    where
      by_link : (t : Who) → next_at nexts t ≡ None → thin_at (strand_in net t) ≡ true → (lk : Option Link) → link_into net t 0 ≡ lk → None ≡ from_of lk
      by_link t none thin None is = refl
      by_link t none thin (Some l) is =
          let r = (found_at (λ k. same k.to t && k.input == 0) net.links is).1 in
          let to = (from_in net formed nothing_yet t 0 l is).0 in
          let lt = slice_get_within net.links r.0 l r.1 in
          let z : None ≡ Some l.from = sym none ∙ ap (next_at nexts) (sym to) ∙ led.all r.0 l (omega (arith, lt, whole)) r.1 (ap (λ s. thin_at (strand_in net s)) to ∙ thin) in
          cc

      by_thin : (t : Who) → next_at nexts t ≡ None → (b : Bool) → thin_at (strand_in net t) ≡ b → None ≡ cond b (producer_at net t 0) None
      by_thin t none true thin = by_link t none thin (link_into net t 0) refl
      by_thin t none false thin = refl

      by_next : (t : Who) (x : Option Who) → next_at nexts t ≡ x → next_at nexts t ≡ on_from net t
      by_next t (Some u) e = e ∙ sym (led.only t u e)
      by_next t None e = e ∙ by_thin t e (thin_at (strand_in net t)) refl

-- and with those where ways part as they do after all rounds
pub led_over : (net : Net) (forks : List (Option Who)) → AreForks net forks → (old new : Nexts) → AreNexts net 0 old → length new ≡ length old → ((t : Who) → t < length old → next_at new t ≡ or_else (next_at forks t) (next_at old t)) → AreNexts net (length net.strands) new
led_over net forks are old new before count each = record {
  count = count ∙ before.count;
  each = λ t. elim (cases_lt t (length old)) [
    | inl lt ↦ each t lt ∙ ap (λ z. or_else z (next_at old t)) (are.each t) ∙ ap (or_else (fork net t)) (before.each t ∙ ap (λ z. or_else z (on_from net t)) (none_at_first net t))
    | inr le ↦ past t le
  ];
}
  where
    past : (t : Who) → length old ≤ t → next_at new t ≡ next_on_walk net (rounds net (length net.strands)) t
    past t le =
        let long = before.count in
        let rounds_count = rounds_long net (length net.strands) in
        sym (unwrap_or-slice_get new t None) ∙ ap (λ x. unwrap_or x None) (slice_get_past new t (omega (arith, le, count)))
        ∙ sym (ap (λ x. cond (thin_at x) (producer_at net t 0) None) (slice_get_past net.strands t (omega (arith, le, long))))
        ∙ sym (ap (λ z. or_else (unwrap_or z None) (on_from net t)) (slice_get_past (rounds net (length net.strands)) t (omega (arith, le, long, rounds_count))))

-- the forks of a list that has each strand's
pub forks_are : (net : Net) (forks : List (Option Who)) → length forks ≡ length net.strands → ((s : Who) → s < length net.strands → slice_get forks s ≡ Some (fork net s)) → AreForks net forks
forks_are net forks count each = record {
  count = count;
  each = λ s. sym (unwrap_or-slice_get forks s None) ∙ (elim (cases_lt s (length net.strands)) [
    | inl lt ↦ ap (λ x. unwrap_or x None) (each s lt)
    | inr le ↦
        let long = rounds_long net (length net.strands) in
        ap (λ x. unwrap_or x None) (slice_get_past forks s (omega (arith, le, count)) ∙ sym (slice_get_past (rounds net (length net.strands)) s (omega (arith, le, long))))
  ]);
}
