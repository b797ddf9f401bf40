-- Each of the five steps that change one view keeps the rule, and tells what it should.
use Rattle.std.proofs.Common.{◌≡◌, ℕ, ◌+◌, ◌-◌, ◌%◌, ◌^◌, ◌<◌, ◌≤◌, ◌||◌, eqb, List, [], ◌∷◌, length, get_or, set, sym, refl, ap, ◌∙◌, subst, inl, inr, arith, length-set, get_or-set_other, get_or-set_same, length-append, append-nil, Some, None, Bool}
use mathlib.Core.Logic.{dite}
use mathlib.Core.List.{IsPrefix}
use mathlib.Core.Option.{none, some, some-injective, some-ne-none}
use native.Mathlib.Decide.{ℕ_discrete}
use lib.ListN.{get_elem?}
use prog.Atomic.{either}
use Rattle.atomic_table.specs.Table.{step, Act, keeps, takes, gives, Valid, carried_after, stepped, Allows}
use Rattle.atomic_table.proofs.Lists.{set_here, exchanged}
use Rattle.core_machine.specs.Machine.{IsLawful}
use Rattle.std.specs.Prelude.{nat_lt}
use Rattle.board.specs.Counts.{times, places, signum, all_shares, all_tries}
use Rattle.board.specs.Rule.{Kept, Slot, machine_of, Fits, IsOrdered, made_since, HasMade, MayGive}
use Rattle.board.specs.Plays.{Sat, after_busy, after_take, Tried, Waited, new_places, after_raise, AreNew, Raised, after_give, Gave, Learned}
use Rattle.board.specs.declared.view.View.{View}
use Rattle.board.proofs.Sums.{term_le, places-le, times-append, signum-positive, positive-sum, inside}
use Rattle.board.proofs.Prefixes.{prefix_self, prefix_trans}
use Rattle.board.proofs.Raises.{new_is, mine_more, places_more, raised_parts}
use Rattle.board.proofs.Moves.{BoardState, state_of_board, held_count, holding, same_machine, lawful_on, goes, unmoved, sees, none_out}
use Rattle.board.proofs.Slots.{one_kept}

-- a step after which the slot is out, and which leaves the core and the length word alone
still : (s : BoardState) (o : IsOrdered s) (id y tries : ℕ) (held : Slot) (hs : List (mathlib.Core.Option.Option Slot)) (v : View) → get_elem? s.views id ≡ some v → 0 < y → 0 < v.tries → tries + y ≡ v.tries + get_or s.words 1 0
    → held_count held + signum (get_or s.words 1 0) ≡ held_count v.held + 1 → ((k : Kept) → held ≡ Some k → k ≡ o.now) → get_elem? hs 0 ≡ some none
    → IsOrdered (state_of_board (set s.words 1 y) hs (set s.views id (record v { tries = tries; held = held })))
still s o id y tries held hs v at out some_try sum holds is away =
    let w : View = record v { tries = tries; held = held } in let long = o.words in let f : Fits o.now v = o.fits id v at in
    let here : get_or (set s.words 1 y) 1 0 ≡ y = get_or-set_same s.words 1 y 0 (omega arith) in
    let other : get_or (set s.words 1 y) 0 0 ≡ get_or s.words 0 0 = get_or-set_other s.words 1 0 y 0 (λ e. omega arith) in
    let up = signum-positive y out in
    goes s o id v w (set s.words 1 y) hs o.now at (length-set s.words 1 y ∙ o.words) (other ∙ o.long) o.lawful (λ e. absurd (omega arith)) (λ _. away) (record {
      holders = let e : signum (get_or (set s.words 1 y) 1 0) ≡ 1 = ap signum here ∙ up in omega arith;
      held = is;
      others = inr refl;
      journal = prefix_self o.now.0.journal;
      net = refl;
      budget = refl;
      later = omega arith;
      fits = record { net = f.net; seen = f.seen; told = f.told; parts = f.parts; turn = f.turn; used = f.used; idle = λ z. let none_left = (f.idle z).numbers in absurd (omega arith) };
      fresh = λ z. absurd (omega arith);
      newer = λ z. absurd (omega arith);
      latest = λ z. absurd (omega arith);
      mine = λ p. refl;
      jobs = λ p. refl;
      lost = λ n m e h. let same : n ≡ m = omega arith in h ∙ ap (nat_lt 0) same;
      turns = refl;
      tries = omega arith;
      shares = refl;
    })

-- the slot is taken
grabs : (s : BoardState) (o : IsOrdered s) (id y : ℕ) (m : Sat) → get_elem? s.views id ≡ some m.0 → get_or s.words 1 0 ≡ 0 → 0 < m.0.tries → m.0.held ≡ None → y ≡ 1
    → IsOrdered (state_of_board (set s.words 1 y) (set s.homes 0 none) (set s.views id (after_take m.0 o.now)))
grabs s o id y m at free some_try idle one =
    let no : held_count m.0.held ≡ 0 = ap held_count idle in let down : signum (get_or s.words 1 0) ≡ 0 = ap signum free in
    still s o id y (m.0.tries - 1) (Some o.now) (set s.homes 0 none) m.0 at (omega arith) some_try (omega arith) (omega arith) (λ k e. cc) (set_here s.homes 0 none (inside s.homes 0 (some (Some o.now)) (o.home free)))

pub tries : (n id : ℕ) (m : Sat) → 0 < m.0.tries → m.0.held ≡ None → Allows IsOrdered n id m 1 (λ y. (y + 1) % 2 ^ 64) (Tried (step n 1 1 0 none) m)
tries n id m some_try idle s o _ at _ = let x : ℕ = get_or s.words 1 0 in let y : ℕ = (x + 1) % 2 ^ 64 in
    let part = term_le (λ (u : View). u.tries) s.views id m.0 at in let all = o.tries in let is : y ≡ x + 1 = omega arith in
    dite (ℕ_discrete x 0)
    (λ free. (
      after_take m.0 o.now,
      takes 0 (Some o.now),
      o.home free,
      grabs s o id y m at free some_try idle (omega arith),
      ((λ _. record { kept = o.now; seat = refl; sees = sees s o id m.0 at }), λ ne. absurd (ne free)),
    ))
    (λ ne. (
      after_busy m.0,
      keeps,
      tt,
      still s o id y (m.0.tries - 1) m.0.held s.homes m.0 at (omega arith) some_try (omega arith) (let up = signum-positive x (omega arith) in omega arith) (λ k e. o.held id m.0 k at e) (o.away (omega arith)),
      ((λ e. absurd (ne e)), λ _. (refl, λ every. ne (none_out s o id m.0 at every idle))),
    ))

pub waits : (n id : ℕ) (m : Sat) → 0 < m.0.tries → m.0.held ≡ None → Allows IsOrdered n id m 1 (λ y. either (eqb y 0) 1 y) (Waited (step n 1 0 1 none) m)
waits n id m some_try idle s o _ at _ = let x : ℕ = get_or s.words 1 0 in
    exchanged x 0 1 (λ y. (w : View) × (a : Act Slot) × Valid s.homes m.1 a × IsOrdered (stepped s 1 y id m.1 w a) × Waited (step n 1 0 1 none) m x (w, carried_after m.1 a))
    (λ free. (
      after_take m.0 o.now,
      takes 0 (Some o.now),
      o.home free,
      grabs s o id 1 m at free some_try idle refl,
      ((λ _. record { kept = o.now; seat = refl; sees = sees s o id m.0 at }), λ ne. absurd (ne free)),
    ))
    (λ ne. (m.0, keeps, tt, unmoved s o 1 id m.0 at, ((λ e. absurd (ne e)), λ _. refl)))

pub learns : (n id : ℕ) (m : Sat) → Allows IsOrdered n id m 0 (λ y. y) (Learned (step n 0 0 0 none) m)
learns n id m s o _ at _ = let share_le : m.0.shares ≤ all_shares = let part = term_le (λ (u : View). u.shares) s.views id m.0 at in let all = o.shares in omega arith in
    let try_le : m.0.tries ≤ all_tries = let part = term_le (λ (u : View). u.tries) s.views id m.0 at in let all = o.tries in omega arith in (
      m.0,
      keeps,
      tt,
      unmoved s o 0 id m.0 at,
      (refl, (o.fits id m.0 at).told, (λ p. let part = term_le (λ (u : View). times p u.mine) s.views id m.0 at in let all = o.mine p in let few = places-le p (length o.now.0.journal) in omega arith), share_le, try_le),
    )

-- the holder's core is the rule's
holder : (s : BoardState) (o : IsOrdered s) (id : ℕ) (v : View) (h : Kept) → get_elem? s.views id ≡ some v → v.held ≡ Some h → (h ≡ o.now) × (0 < get_or s.words 1 0) × (held_count v.held ≡ 1)
holder s o id v h at held = let x : ℕ = get_or s.words 1 0 in let one : held_count v.held ≡ 1 = ap held_count held in let part = term_le holding s.views id v at in let all = o.holders in
    (o.held id v h at held, dite (ℕ_discrete x 0) (λ z. let down : signum x ≡ 0 = ap signum z in absurd (omega arith)) (λ ne. omega arith), one)

raises_now : (s : BoardState) (o : IsOrdered s) (n id : ℕ) (v : View) (k : Kept) (made : ℕ) (home lost : List ℕ) → get_elem? s.views id ≡ some v → get_or s.words 0 0 < 18446744073709551616 → HasMade v o.now k home lost
    → length k.0.journal ≡ length o.now.0.journal + made
    → (w : View) × (a : Act Slot) × Valid s.homes ((0, Some k) ∷ []) a × IsOrdered (stepped s 0 ((get_or s.words 0 0 + made) % 2 ^ 64) id ((0, Some k) ∷ []) w a)
    × Raised home lost (step n 0 made 0 none) (v, (0, Some k) ∷ []) (get_or s.words 0 0) (w, carried_after ((0, Some k) ∷ []) a)
raises_now s o n id v k made home lost at small t longer =
    let w : View = after_raise home lost v k in let x : ℕ = get_or s.words 0 0 in let y : ℕ = (x + made) % 2 ^ 64 in let was : Kept = o.now in let f : Fits was v = o.fits id v at in
    let here = holder s o id v was at t.held in let wide = o.words in let long = o.long in let turn : ℕ = get_or s.words 1 0 in
    let len : ℕ = length was.0.journal in let within = t.lawful.within in let bounded = t.lawful.bounded in
    let is : y ≡ x + made = omega arith in let number = t.turns in
    let zero_at : get_or (set s.words 0 y) 0 0 ≡ y = get_or-set_same s.words 0 y 0 (omega arith) in
    let one_at : get_or (set s.words 0 y) 1 0 ≡ turn = get_or-set_other s.words 0 1 y 0 (λ e. omega arith) in
    let out_here : 0 < turn = here.1 in
    let unmade : (p : ℕ) → 0 < times p (made_since was k) → times p v.mine ≡ 0 = λ p h. let part = term_le (λ (u : View). times p u.mine) s.views id v at in let all = o.mine p in let more = places_more v was k home lost t p in let few = places-le p (length k.0.journal) in omega arith in (
      w,
      keeps,
      tt,
      goes s o id v w (set s.words 0 y) s.homes k at (length-set s.words 0 y ∙ wide) (omega arith) t.lawful (λ z. absurd (omega arith)) (λ _. o.away out_here) (record {
        holders = let same : signum (get_or (set s.words 0 y) 1 0) ≡ signum turn = ap signum one_at in let one = here.2 in omega arith;
        held = λ k' e'. cc;
        others = inl (here.2);
        journal = t.journal;
        net = t.net.0;
        budget = t.net.1;
        later = omega arith;
        fits = record {
          net = λ h. (t.net.0 ∙ (f.net h).0, t.net.1 ∙ (f.net h).1);
          seen = prefix_trans v.seen was.0.journal k.0.journal f.seen t.journal;
          told = f.told;
          parts = raised_parts v was k home lost t;
          turn = let old = f.turn in omega arith;
          used = f.used;
          idle = λ z. let some_share = t.shares in absurd (omega arith);
        };
        fresh = λ z. absurd (omega arith);
        newer = λ z. absurd (omega arith);
        latest = λ z. absurd (omega arith);
        mine = λ p. let a = mine_more v was k home lost t p in let b = places_more v was k home lost t p in omega arith;
        jobs = λ p. let a = times-append p v.home home in let b = places_more v was k home lost t p in let c = t.jobs p in omega arith;
        lost = λ a c sum h. let e : c ≡ a + length lost = let l = length-append v.lost lost in omega arith in t.broken ∙ (ap (λ (b : Bool). b || nat_lt 0 (length lost)) h ∙ (sym (positive-sum a (length lost)) ∙ ap (nat_lt 0) (sym e)));
        turns = omega arith;
        tries = omega arith;
        shares = refl;
      }),
      (λ k' e'. let same : k ≡ k' = one_kept k k' e' in subst (λ (z : Kept). ◌≡◌ {A = Sat} (after_raise home lost v k, (0, Some k) ∷ []) (after_raise home lost v z, (0, Some z) ∷ []) × AreNew v (new_places v z)) same
          (refl, (λ p h. let none = unmade p (subst (λ (l : List ℕ). 0 < times p l) (new_is v was k home lost t) h) in let parts = f.parts p in (none, omega arith, omega arith)))),
    )

pub raises : (n id : ℕ) (m : Sat) (v : View) (h k : Kept) (made : ℕ) (home lost : List ℕ) → m ≡ (v, (0, Some k) ∷ []) → HasMade v h k home lost → length k.0.journal ≡ length h.0.journal + made
    → Allows IsOrdered n id m 0 (λ y. (y + made) % 2 ^ 64) (Raised home lost (step n 0 made 0 none) m)
raises n id m v h k made home lost is t longer = subst (λ (z : Sat). Allows IsOrdered n id z 0 (λ y. (y + made) % 2 ^ 64) (Raised home lost (step n 0 made 0 none) z)) (sym is)
    (λ s o _ at small. let here = holder s o id v h at t.held in let was = subst (λ (z : Kept). HasMade v z k home lost × (length k.0.journal ≡ length z.0.journal + made)) here.0 (t, longer) in raises_now s o n id v k made home lost at small was.0 was.1)

gives_now : (s : BoardState) (o : IsOrdered s) (n id : ℕ) (v : View) (k : Kept) (home lost : List ℕ) → get_elem? s.views id ≡ some v → length s.homes ≡ 1 → MayGive v o.now k home lost
    → (w : View) × (a : Act Slot) × Valid s.homes ((0, Some k) ∷ []) a × IsOrdered (stepped s 1 0 id ((0, Some k) ∷ []) w a)
    × Gave home lost (step n 1 0 0 none) (v, (0, Some k) ∷ []) (get_or s.words 1 0) (w, carried_after ((0, Some k) ∷ []) a)
gives_now s o n id v k home lost at one b =
    let x : ℕ = get_or s.words 1 0 in let w : View = after_give home lost x v k in let was : Kept = o.now in let f : Fits was v = o.fits id v at in
    let here = holder s o id v was at b.held in let wide = o.words in let out = here.1 in let number = b.turns in
    let zero_at : get_or (set s.words 1 0) 1 0 ≡ 0 = get_or-set_same s.words 1 0 0 (omega arith) in
    let other : get_or (set s.words 1 0) 0 0 ≡ get_or s.words 0 0 = get_or-set_other s.words 1 0 0 0 (λ e. omega arith) in
    let net = b.net.0 in let budget = b.net.1 in let same_length : length k.0.journal ≡ length was.0.journal = ap length b.journal in
    let lawful : IsLawful k.0 = lawful_on was.0 k.0 net budget b.journal o.lawful in (
      w,
      gives,
      tt,
      goes s o id v w (set s.words 1 0) (set s.homes 0 (some (Some k))) k at (length-set s.words 1 0 ∙ wide) (other ∙ (o.long ∙ sym same_length)) lawful
          (λ _. set_here s.homes 0 (some (Some k)) (omega arith)) (λ z. absurd (omega arith)) (record {
            holders = let down : signum (get_or (set s.words 1 0) 1 0) ≡ 0 = ap signum zero_at in let up = signum-positive x out in let held = here.2 in omega arith;
            held = λ k' e. absurd cc;
            others = inl (here.2);
            journal = ([], append-nil was.0.journal ∙ sym b.journal);
            net = net;
            budget = budget;
            later = omega arith;
            fits = record {
              net = λ h. (net ∙ (f.net h).0, budget ∙ (f.net h).1);
              seen = prefix_self k.0.journal;
              told = prefix_trans v.told v.seen k.0.journal f.told (subst (IsPrefix v.seen) (sym b.journal) f.seen);
              parts = λ p. let all = b.parts p in let a = times-append p v.home home in let c = times-append p v.lost lost in omega arith;
              turn = omega arith;
              used = let old = f.used in omega arith;
              idle = λ z. let some_share = b.shares in absurd (omega arith);
            };
            fresh = λ _ _ _. let n = f.net b.shares in same_machine (machine_of w) k.0 (sym (net ∙ n.0)) (sym (budget ∙ n.1)) refl refl refl;
            newer = λ _. omega arith;
            latest = λ _. (b.shares, refl);
            mine = λ p. ap (λ (z : ℕ). times p v.mine + times p (places z)) (sym same_length);
            jobs = λ p. let a = times-append p v.home home in let c = b.jobs p in let d : times p (places (length k.0.journal)) ≡ times p (places (length was.0.journal)) = ap (λ (z : ℕ). times p (places z)) same_length in omega arith;
            lost = λ a c sum h. let e : c ≡ a + length lost = let l = length-append v.lost lost in omega arith in b.broken ∙ (ap (λ (x : Bool). x || nat_lt 0 (length lost)) h ∙ (sym (positive-sum a (length lost)) ∙ ap (nat_lt 0) (sym e)));
            turns = omega arith;
            tries = omega arith;
            shares = refl;
          }),
      (λ k' e. let same : k ≡ k' = one_kept k k' e in ap (λ (z : Kept). (after_give home lost x v z, [])) same),
    )

pub gives_back : (id : ℕ) (m : Sat) (v : View) (h k : Kept) (home lost : List ℕ) → m ≡ (v, (0, Some k) ∷ []) → MayGive v h k home lost → Allows IsOrdered 1 id m 1 (λ _. 0) (Gave home lost (step 1 1 0 0 none) m)
gives_back id m v h k home lost is b = subst (λ (z : Sat). Allows IsOrdered 1 id z 1 (λ _. 0) (Gave home lost (step 1 1 0 0 none) z)) (sym is)
    (λ s o one at _. let here = holder s o id v h at b.held in gives_now s o 1 id v k home lost at one (subst (λ (z : Kept). MayGive v z k home lost) here.0 b))
