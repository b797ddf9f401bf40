-- Marks on the strands that walks pass.
use Rattle.std.proofs.Common.{◌≡◌, ◌≢◌, ◌⊎◌, inl, inr, ℕ, zero, suc, ◌+◌, ◌≤◌, ◌<◌, Bool, true, false, ◌||◌, List, [], ◌∷◌, ◌++◌, length, replicate, refl, sym, ◌∙◌, ap, subst, arith, Option, Some, None, is_some, slice_get, slice_set, length-set, add-one}
use Rattle.std.proofs.lemmas.Bool.{cases_lt}
use Rattle.std.proofs.lemmas.List.{length-replicate}
use Rattle.pipe_model.specs.declared.net.Net.{Net}
use Rattle.pipe_model.specs.declared.net.Link.{Link}
use Rattle.pipe_model.specs.Members.{flag_at}
use Rattle.pipe_model.specs.Settled.{fork}
use Rattle.pipe_model.specs.State.{Who}
use Rattle.pipe_model.proofs.Lists.{at_some, get_copy, get_seam, get_set_other, get_set_same, length_more}
use Rattle.pipe_model.proofs.Numbers.{equal_or_not}
use Rattle.confluence_laws.proofs.Within.{longer}
use Rattle.braid_check.specs.Walks.{Nexts, next_at, stood}
use Rattle.braid_check.proofs.Ways.{stood_more}
use Rattle.stall_lint.specs.WalksBack.{AreMarked, AreMarkedLinks, ArePassed, IsBefore, IsPassed}

-- a walk that has ended goes no further
pub stood_none : (nexts : Nexts) (k j : ℕ) (at : Option Who) → stood nexts k at ≡ None → k ≤ j → stood nexts j at ≡ None
stood_none nexts zero zero at ended le = ended
stood_none nexts zero (suc j) None ended le = ended
stood_none nexts zero (suc j) (Some t) ended le = cc
stood_none nexts (suc k) zero at ended le = absurd (omega (arith, le))
stood_none nexts (suc k) (suc j) None ended le = ended
stood_none nexts (suc k) (suc j) (Some t) ended le = stood_none nexts k j (next_at nexts t) ended (omega (arith, le))

module _ (nexts : Nexts) (start d : Who) where
  -- further steps pass a strand too
  further : (m n : ℕ) (t : Who) → m ≤ n → IsBefore nexts m start d t → IsBefore nexts n start d t
  further m n t le b = record { steps = b.steps; few = (let few = b.few in omega (arith, few, le)); there = b.there; before = b.before }

  -- where no further step passes any, the marks are whole
  whole : (m n : ℕ) (old new : List Bool) → m ≤ n → ((t : Who) (b : IsBefore nexts n start d t) → b.steps < m) → AreMarked nexts m start d old new → AreMarked nexts n start d old new
  whole m n old new le few marked = record {
    count = marked.count;
    keeps = marked.keeps;
    only = λ t is. elim (marked.only t is) [ inl before ↦ inl before | inr b ↦ inr (further m n t le b) ];
    all = λ t b. marked.all t (record { steps = b.steps; few = few t b; there = b.there; before = b.before });
  }

  -- the walk stands at a strand after n steps, and those before are marked
  pub record IsPassing (n : ℕ) (at : Who) (old new : List Bool) : Type 0 where
    pub within : at < length nexts
    pub here : stood nexts n (Some start) ≡ Some at
    pub before : (k : ℕ) → k < n → stood nexts k (Some start) ≢ Some d
    pub marked : AreMarked nexts n start d old new

  pub passing_first : (old : List Bool) → start < length nexts → IsPassing 0 start old old
  passing_first old within = record {
    within = within;
    here = refl;
    before = λ k lt. absurd (omega (arith, lt));
    marked = record {
      count = refl;
      keeps = λ t is. is;
      only = λ t is. inl is;
      all = λ t b. (let few = b.few in absurd (omega (arith, few)));
    };
  }

  module _ (n : ℕ) (at : Who) (old new : List Bool) (passing : IsPassing n at old new) where
    -- it has come to d
    pub passed_all : (m : ℕ) → n ≤ m → at ≡ d → AreMarked nexts m start d old new
    passed_all m le is = whole n m old new le few passing.marked
      where
        few : (t : Who) (b : IsBefore nexts m start d t) → b.steps < n
        few t b = elim (cases_lt b.steps n) [
          | inl lt ↦ lt
          | inr le' ↦ absurd (b.before n le' (passing.here ∙ ap Some is))
        ]

    module _ (long : length old ≡ length nexts) (apart : at ≢ d) where
      not_yet : (k : ℕ) → k ≤ n → stood nexts k (Some start) ≢ Some d
      not_yet k le e = elim (equal_or_not k n) [
        | inl it ↦ (let z : Some at ≡ Some d = sym passing.here ∙ ap (λ m. stood nexts m (Some start)) (sym it) ∙ e in apart cc)
        | inr other ↦ passing.before k (omega (arith, le, other)) e
      ]

      marked_now : slice_get (slice_set new at true) at ≡ Some true
      marked_now = (let count = passing.marked.count in let within = passing.within in let b = at_some new at (omega (arith, count, long, within)) in get_set_same new at true b.0 b.1)

      one_more : AreMarked nexts (suc n) start d old (slice_set new at true)
      one_more = record {
        count = length-set new at true ∙ passing.marked.count;
        keeps = λ t is. elim (equal_or_not t at) [
          | inl it ↦ subst (λ z. slice_get (slice_set new at true) z ≡ Some true) (sym it) marked_now
          | inr other ↦ get_set_other new at t true other ∙ passing.marked.keeps t is
        ];
        only = λ t is. elim (equal_or_not t at) [
          | inl it ↦ inr (record { steps = n; few = omega arith; there = passing.here ∙ ap Some (sym it); before = not_yet })
          | inr other ↦ elim (passing.marked.only t (sym (get_set_other new at t true other) ∙ is)) [
            | inl was ↦ inl was
            | inr b ↦ inr (further n (suc n) t (omega arith) b)
          ]
        ];
        all = λ t b. elim (equal_or_not t at) [
          | inl it ↦ subst (λ z. slice_get (slice_set new at true) z ≡ Some true) (sym it) marked_now
          | inr other ↦ get_set_other new at t true other ∙ passing.marked.all t (record {
            steps = b.steps;
            few = (elim (equal_or_not b.steps n) [
              | inl same_steps ↦ (let z : Some t ≡ Some at = sym b.there ∙ ap (λ m. stood nexts m (Some start)) same_steps ∙ passing.here in absurd (other cc))
              | inr differ ↦ (let few = b.few in omega (arith, few, differ))
            ]);
            there = b.there;
            before = b.before;
          })
        ];
      }

      -- it ends
      pub passed_end : (m : ℕ) → n < m → next_at nexts at ≡ None → AreMarked nexts m start d old (slice_set new at true)
      passed_end m lt ends = whole (suc n) m old (slice_set new at true) (omega (arith, lt)) few one_more
        where
          few : (t : Who) (b : IsBefore nexts m start d t) → b.steps < suc n
          few t b = elim (cases_lt b.steps (suc n)) [
            | inl less ↦ less
            | inr le ↦ (let z : None ≡ Some t = sym (stood_none nexts (suc n) b.steps (Some start) (stood_more nexts n (Some start) at passing.here ∙ ends) le) ∙ b.there in cc)
          ]

      -- or goes on
      pub passing_next : (u : Who) → u < length nexts → next_at nexts at ≡ Some u → IsPassing (n + 1) u old (slice_set new at true)
      passing_next u within e = subst (λ m. IsPassing m u old (slice_set new at true)) (sym (add-one n)) (record {
        within = within;
        here = stood_more nexts n (Some start) at passing.here ∙ e;
        before = λ k lt. not_yet k (omega (arith, lt));
        marked = one_more;
      })

-- All walks

module _ (net : Net) (nexts : Nexts) where
  pub none_passed : (passed : List Bool) → passed ≡ replicate (length nexts) false → ArePassed net nexts 0 passed
  none_passed passed is = record {
    count = ap length is ∙ length-replicate {A = Bool} (length nexts) false;
    only = λ t at. (let z : true ≡ false = get_copy (length nexts) false true t (ap (λ xs. slice_get xs t) (sym is) ∙ at) in cc);
    all = λ t p. (let few = p.few in absurd (omega (arith, few)));
  }

  further_passed : (n : ℕ) (t : Who) → IsPassed net nexts n t → IsPassed net nexts (n + 1) t
  further_passed n t p = record { number = p.number; few = (let few = p.few in omega (arith, few)); link = p.link; at = p.at; parts = p.parts; parts_is = p.parts_is; before = p.before }

  module _ (n : ℕ) (passed : List Bool) (are : ArePassed net nexts n passed) (l : Link) (at : slice_get net.links n ≡ Some l) where
    -- a walk is one from an earlier link or from this one
    earlier : (t : Who) → IsPassed net nexts (n + 1) t → IsPassed net nexts n t ⊎ ((d : Who) × (fork net l.to ≡ Some d) × IsBefore nexts (length nexts) l.from d t)
    earlier t p = elim (equal_or_not p.number n) [
      | inl it ↦
          let one : p.link ≡ l = (let z : Some p.link ≡ Some l = sym p.at ∙ ap (slice_get net.links) it ∙ at in cc) in
          inr (p.parts, ap (λ (z : Link). fork net z.to) (sym one) ∙ p.parts_is, subst (λ (z : Link). IsBefore nexts (length nexts) z.from p.parts t) one p.before)
      | inr other ↦ inl (record { number = p.number; few = (let few = p.few in omega (arith, few, other)); link = p.link; at = p.at; parts = p.parts; parts_is = p.parts_is; before = p.before })
    ]

    -- no walk goes back from a strand to which no ways part
    pub no_walk_back : fork net l.to ≡ None → ArePassed net nexts (n + 1) passed
    no_walk_back none = record {
      count = are.count;
      only = λ t is. further_passed n t (are.only t is);
      all = λ t p. elim (earlier t p) [ inl before ↦ are.all t before | inr here ↦ (let z : None ≡ Some here.0 = sym none ∙ here.1 in cc) ];
    }

    pub walk_back : (d : Who) → fork net l.to ≡ Some d → (new : List Bool) → AreMarked nexts (length nexts) l.from d passed new → ArePassed net nexts (n + 1) new
    walk_back d is new marked = record {
      count = marked.count ∙ are.count;
      only = λ t marked_t. elim (marked.only t marked_t) [
        | inl was ↦ further_passed n t (are.only t was)
        | inr b ↦ record { number = n; few = omega arith; link = l; at = at; parts = d; parts_is = is; before = b }
      ];
      all = λ t p. elim (earlier t p) [
        | inl before ↦ marked.keeps t (are.all t before)
        | inr here ↦ marked.all t (subst (λ z. IsBefore nexts (length nexts) l.from z t) (let z : Some here.0 ≡ Some d = sym here.1 ∙ is in let w : here.0 ≡ d = cc in w) here.2)
      ];
    }

-- Marks on links

pub one_more_mark : (net : Net) (passed : List Bool) (n : ℕ) (inner : List Bool) → AreMarkedLinks net passed n inner → (l : Link) → slice_get net.links n ≡ Some l → (b : Bool) → b ≡ (is_some (fork net l.to) || flag_at passed l.to) → AreMarkedLinks net passed (n + 1) (inner ++ b ∷ [])
one_more_mark net passed n inner marks l at b is = record {
  count = (let long = length_more inner b in let count = marks.count in omega (arith, long, count));
  each = λ j k lt at_j. elim (equal_or_not j n) [
    | inl it ↦
        let one : k ≡ l = (let z : Some k ≡ Some l = sym at_j ∙ ap (slice_get net.links) it ∙ at in cc) in
        ap (slice_get (inner ++ b ∷ [])) (it ∙ sym marks.count) ∙ get_seam inner b [] ∙ ap Some is ∙ ap (λ (m : Link). Some (is_some (fork net m.to) || flag_at passed m.to)) (sym one)
    | inr other ↦ longer inner (b ∷ []) j (marks.each j k (omega (arith, lt, other)) at_j)
  ];
}
