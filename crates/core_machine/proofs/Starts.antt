-- A core before the first step is sound.
use Rattle.std.proofs.Common.{◌≡◌, ◌≢◌, inl, inr, ℕ, zero, suc, ◌≤◌, ◌<◌, Bool, true, false, cond, ◌&&◌, not, nat_lt, ◌==◌, List, [], ◌∷◌, length, map, refl, sym, ◌∙◌, ap, subst, arith, Option, Some, None, slice_get, slice_set, length-set, is_some, ℤ}
use Rattle.std.proofs.lemmas.Bool.Decides.{nat_tests}
use Rattle.std.proofs.lemmas.Bool.{ne_eqb}
use Rattle.std.proofs.lemmas.Option.{slice_get_within}
use Rattle.std.proofs.lemmas.List.Sums.{sum_by-cons}
use Rattle.std.specs.List.{sum_by}
use Rattle.std.specs.Option.{option_map}
use Rattle.std.specs.Prelude.{Result, Ok, Err, IfOk, OnErr}
use Rattle.std.specs.Result.{is_err}
use mathlib.Core.Path.{fun_ext}
use Rattle.pipe_model.specs.declared.net.Net.{Net}
use Rattle.pipe_model.specs.declared.net.Strand.{Strand}
use Rattle.pipe_model.specs.declared.step.Want.{Want as Asked}
use Rattle.pipe_model.specs.declared.step.Want.TheVariants as Ask
use Rattle.pipe_model.specs.Event.{Event, Want}
use Rattle.pipe_model.specs.Next.{next, want_in, first_phase, IsOwn}
use Rattle.pipe_model.specs.Table.{form}
use Rattle.pipe_model.specs.State.{Who, past, nothing_yet, strand_at}
use Rattle.pipe_model.specs.Licence.{Left, none_left, want_after, want_at, answer, sight_of, licence}
use Rattle.pipe_model.specs.WellFormed.{IsWellFormed}
use Rattle.pipe_model.proofs.Numbers.{equal_or_not, test_same}
use Rattle.pipe_model.proofs.Lists.{at_some, beside, get_set_same, get_set_other}
use Rattle.record_pool.specs.PoolState.{PoolState}
use Rattle.record_pool.specs.Places.{bytes_at}
use Rattle.connectors.specs.WireState.{WireState, waiting_in}
use Rattle.stage_steps.specs.Coroutine.{told, meaning, last_seen, IsSeenBefore}
use Rattle.run_desk.specs.Desk.{DeskState}
use Rattle.run_desk.specs.Standing.{left_in}
use Rattle.run_desk.specs.Turns.{CanCome, HasCome, bare}
use Rattle.run_desk.specs.Holding.{RunStands, waiting_of, out_from}
use Rattle.run_desk.specs.Telling as Telling
use Rattle.run_desk.proofs.Runs.{run_can_come, run_home}
use Rattle.run_desk.proofs.Sees.{seen_is}
use Rattle.core_machine.specs.declared.actor.Actor.{Actor}
use Rattle.core_machine.specs.Actors.{asking_for}
use Rattle.core_machine.specs.Floor.{IsInUse, StaysEarly}
use Rattle.core_machine.specs.Members.{Members}
use Rattle.core_machine.specs.Sound.{IsActor, IsSound}
use Rattle.core_machine.specs.Start.{AreFresh, IsNew, AreNew, IsCalled}
use Rattle.core_machine.specs.Woken.{IsCovering, HasReturned}
use Rattle.core_machine.proofs.Plays.{shows_bare, early_on}

-- before the first step every history is a strand's own
pub own_first : (net : Net) (t : Who) (q : Strand) → strand_at net nothing_yet t ≡ Some q → IsOwn q (past nothing_yet t)
own_first net t q is = tt

-- what a strand wants first is no write
first_is_plain : (s : Strand) (want : Asked) → Some (meaning want (last_seen [])) ≡ next s [] → IsSeenBefore want []
first_is_plain s want is = go want (form s).row.early is
  where
    go : (w : Asked) (early : Option ℤ) → Some (meaning w (last_seen [])) ≡ want_in (first_phase early) → IsSeenBefore w []
    go (Ask.Write o out) None is = cc
    go (Ask.Write o out) (Some code) is = cc
    go _ early is = tt

-- Who is out

not_below : (t s : ℕ) → t < suc s → t ≢ s → t < s
not_below t s m e = grind arith

-- one strand less is out
next_in : (s n : ℕ) → left_in (out_from s n) s ≡ out_from (suc s) n
next_in s n = fun_ext (λ t. each t)
  where
    each : (t : ℕ) → left_in (out_from s n) s t ≡ out_from (suc s) n t
    each t = elim (equal_or_not t s) [
      | inl z ↦
          let here : (t == s) ≡ true = ap (λ y. y == s) z ∙ test_same s in
          let off : nat_lt t (suc s) ≡ true = ap (λ y. nat_lt y (suc s)) z ∙ below s in
          ap (λ b. cond b false (out_from s n t)) here ∙ sym (ap (λ b. not b && nat_lt t n) off)
      | inr z ↦
          ap (λ b. cond b false (out_from s n t)) (ne_eqb t s z) ∙ ap (λ b. not b && nat_lt t n) (same t z)
    ]
      where
        below : (x : ℕ) → nat_lt x (suc x) ≡ true
        below x = grind (arith, nat_tests)

        same : (x : ℕ) → x ≢ s → nat_lt x s ≡ nat_lt x (suc s)
        same x apart = grind (arith, nat_tests)

none_out : (n : ℕ) → out_from n n ≡ none_left
none_out n = fun_ext (λ t. each t)
  where
    each : (t : ℕ) → out_from n n t ≡ false
    each t = go (nat_lt t n)
      where
        go : (b : Bool) → (not b && b) ≡ false
        go true = refl
        go false = refl

still_out : (s n : ℕ) → s < n → out_from s n s ≡ true
still_out s n m = ap (λ b. not b && nat_lt s n) (at s) ∙ within
  where
    at : (x : ℕ) → nat_lt x x ≡ false
    at x = grind (arith, nat_tests)

    within : nat_lt s n ≡ true
    within = grind (arith, nat_tests, m)

all_out : (t n : ℕ) → t < n → out_from 0 n t ≡ true
all_out t n m = ap (λ b. not b && nat_lt t n) (none t) ∙ within
  where
    none : (x : ℕ) → nat_lt x 0 ≡ false
    none x = grind (arith, nat_tests)

    within : nat_lt t n ≡ true
    within = grind (arith, nat_tests, m)

module _ (net : Net) where
  -- before the first step nobody asks for anything
  no_want : (t : Who) → want_at net nothing_yet (out_from 0 (length net.strands)) t ≡ None
  no_want t = go (strand_at net nothing_yet t) refl
    where
      nothing : (b : Bool) → cond b None (want_after None []) ≡ None
      nothing true = refl
      nothing false = refl

      go : (x : Option Strand) → strand_at net nothing_yet t ≡ x → want_at net nothing_yet (out_from 0 (length net.strands)) t ≡ None
      go None is = ap (λ y. cond (out_from 0 (length net.strands) t) None (want_after y [])) is ∙ nothing (out_from 0 (length net.strands) t)
      go (Some p) is = ap (λ b. cond b None (want_after (strand_at net nothing_yet t) [])) (all_out t (length net.strands) (slice_get_within net.strands t _ is))

  -- so the empty set covers those that may go on
  pub covers_first : IsWellFormed net → (d : DeskState) (pool : PoolState) → RunStands net nothing_yet (out_from 0 (length net.strands)) d pool → (ready : Members) → IsCovering d ready
  covers_first formed d pool run ready t k may =
      let seen = seen_is net (bytes_at pool) nothing_yet (out_from 0 (length net.strands)) d formed run.kept t k in
      let none : licence net nothing_yet (out_from 0 (length net.strands)) t k ≡ None = ap (answer (sight_of net nothing_yet (out_from 0 (length net.strands)) t) k) (no_want t) in
      let off : is_some (Telling.seen_at d t k) ≡ false = ap is_some (seen ∙ ap (option_map told) none) in
      (let no : true ≡ false = sym may ∙ off in cc)

-- What waits

-- where each item gives nothing, the sum is nothing
sum_none : {A : Type 0} (h : A → ℕ) (xs : List A) → ((j : ℕ) (x : A) → slice_get xs j ≡ Some x → h x ≡ 0) → sum_by h xs ≡ 0
sum_none h [] none = refl
sum_none h (x ∷ xs) none = omega (arith, sum_by-cons h x xs, none 0 x refl, sum_none h xs (λ j y at. none (suc j) y at))

-- before the first step no record waits in a queue
none_waits : (net : Net) (left : Left) (d : DeskState) (pool : PoolState) → RunStands net nothing_yet left d pool → waiting_of d.wires ≡ 0
none_waits net left d pool run = sum_none (λ (wire : WireState). length (waiting_in wire.queue)) d.wires each
  where
    by_queue : (q : Option (List ℕ)) (b : Bool) → option_map (map (bytes_at pool)) q ≡ cond b (Some []) None → length (waiting_in q) ≡ 0
    by_queue None b is = refl
    by_queue (Some []) b is = refl
    by_queue (Some (grip ∷ more)) true is = cc
    by_queue (Some (grip ∷ more)) false is = cc

    each : (j : ℕ) (wire : WireState) → slice_get d.wires j ≡ Some wire → length (waiting_in wire.queue) ≡ 0
    each j wire at =
        let l = beside d.wires net.links j wire run.kept.laid.wire_count at in
        by_queue wire.queue l.0.queue (run.kept.wires j l.0 wire l.1 at).queue

module _ {S : Type 0} (stands : S → Strand → List Event → Type 0) (net : Net) (formed : IsWellFormed net) where
  abbrev n : ℕ
  n = length net.strands

  -- what is wanted first, but by those that are out
  wanted : Who → Who → Option Want
  wanted s t = want_at net nothing_yet (out_from s n) t

  -- Each strand is called

  module _ (s : Who) (actors : List (Actor S)) (d : DeskState) (pool : PoolState) (called : IsCalled stands net s actors d pool) (within : s < n) where
    pub its_strand : (p : Strand) × (strand_at net nothing_yet s ≡ Some p)
    its_strand = at_some net.strands s within

    pub its_coroutine : (a : Actor S) × (x : S) × (slice_get actors s ≡ Some a) × (a.stage ≡ Some x)
    its_coroutine =
        let a = at_some actors s (let c = called.count in let w = within in omega (arith, c, w)) in
        let x = called.home s a.0 a.1 in
        (a.0, x.0, a.1, x.1)

    pub called_in_use : IsInUse net d
    called_in_use = record {
      texts = bytes_at pool;
      st = nothing_yet;
      left = out_from s n;
      kept = called.run.kept;
      early = early_on net nothing_yet formed (own_first net) (bytes_at pool) (out_from s n) d called.run.kept;
    }

    called_few : waiting_of d.wires ≤ 50000000
    called_few = let none = none_waits net (out_from s n) d pool called.run in omega (arith, none)

    pub called_live : false ≡ Telling.ended_at d s
    called_live =
        let a = at_some d.seats s (subst (λ n. s < n) (sym called.run.kept.laid.seat_count) within) in
        sym (ap Telling.ended_of a.1 ∙ (called.run.kept.seats s a.0 a.1).ended)

    module _ (want : Asked) (asks : (a : Actor S) (x : S) → slice_get actors s ≡ Some a → a.stage ≡ Some x → (p : Strand) → stands x p [] → Some (meaning want (last_seen [])) ≡ next p []) where
      means : Some (meaning want (last_seen [])) ≡ next its_strand.0 []
      means =
          let c = its_coroutine in
          asks c.0 c.1 c.2 c.3 its_strand.0 ((called.each s its_strand.0 c.0 its_strand.1 c.2).stands_for c.1 c.3)

      seen : IsSeenBefore want []
      seen = first_is_plain its_strand.0 want means

      pub can_call : CanCome d pool s want
      can_call = run_can_come net nothing_yet (out_from s n) d pool formed (own_first net) called.run called_few s its_strand.0 want (still_out s n within) its_strand.1 refl means seen

      pub called_run : (d' : DeskState) (pool' : PoolState) → HasCome d pool s want d' pool' → RunStands net nothing_yet (out_from (suc s) n) d' pool'
      called_run d' pool' come = subst (λ l. RunStands net nothing_yet l d' pool') (next_in s n)
          (run_home net nothing_yet (out_from s n) d pool formed (own_first net) called.run called_few s its_strand.0 want (still_out s n within) its_strand.1 refl means seen d' pool' come)

      pub called_early : StaysEarly d pool s want
      called_early d' pool' come = early_on net nothing_yet formed (own_first net) (bytes_at pool') (out_from (suc s) n) d' (called_run d' pool' come).kept

      pub called_come : (d' : DeskState) (pool' : PoolState) → HasReturned d pool s want d' pool' → HasCome d pool s want d' pool'
      called_come d' pool' returned = elim returned [
        | inl gone ↦ (let no : true ≡ false = sym gone.0 ∙ sym called_live in absurd (let q : ⊥ = cc in q))
        | inr come ↦ come.1
      ]

      pub called_next : (d' : DeskState) (pool' : PoolState) (a : Actor S) → slice_get actors s ≡ Some a → HasCome d pool s want d' pool' →
          IsCalled stands net (suc s) (slice_set actors s (asking_for (bare want) a)) d' pool'
      called_next d' pool' a there come = record {
        run = called_run d' pool' come;
        count = length-set actors s (asking_for (bare want) a) ∙ called.count;
        each = λ t p x is at. elim (equal_or_not t s) [
          | inl z ↦ here t p x z is at
          | inr z ↦ subst (λ w. IsActor stands [] w p x) (want_same t z) (called.each t p x is (sym (get_set_other actors s t (asking_for (bare want) a) z) ∙ at))
        ];
        home = λ t x at. elim (equal_or_not t s) [
          | inl z ↦
              let old = called.home s a there in
              let got : Some (asking_for (bare want) a) ≡ Some x = sym (get_set_same actors s (asking_for (bare want) a) a there) ∙ ap (slice_get (slice_set actors s (asking_for (bare want) a))) (sym z) ∙ at in
              let x_is : (asking_for (bare want) a) ≡ x = cc in
              (old.0, ap (λ y. y.stage) (sym x_is) ∙ old.1)
          | inr z ↦ called.home t x (sym (get_set_other actors s t (asking_for (bare want) a) z) ∙ at)
        ];
      }
        where
          want_same : (t : Who) → t ≢ s → want_at net nothing_yet (out_from s n) t ≡ want_at net nothing_yet (out_from (suc s) n) t
          want_same t apart = ap (λ b. cond (cond b false (out_from s n t)) None (want_after (strand_at net nothing_yet t) [])) (sym (ne_eqb t s apart))
              ∙ ap (λ l. want_at net nothing_yet l t) (next_in s n)

          want_now : want_at net nothing_yet (out_from (suc s) n) s ≡ next its_strand.0 []
          want_now = ap (λ l. want_at net nothing_yet l s) (sym (next_in s n))
              ∙ ap (λ b. cond (cond b false (out_from s n s)) None (want_after (strand_at net nothing_yet s) [])) (test_same s)
              ∙ ap (λ x. want_after x []) its_strand.1

          here : (t : Who) (p : Strand) (x : Actor S) → t ≡ s → strand_at net nothing_yet t ≡ Some p → slice_get (slice_set actors s (asking_for (bare want) a)) t ≡ Some x →
              IsActor stands [] (want_at net nothing_yet (out_from (suc s) n) t) p x
          here t p x z is at =
              let old = called.each s p a (ap (strand_at net nothing_yet) (sym z) ∙ is) there in
              let got : Some (asking_for (bare want) a) ≡ Some x = sym (get_set_same actors s (asking_for (bare want) a) a there) ∙ ap (slice_get (slice_set actors s (asking_for (bare want) a))) (sym z) ∙ at in
              let x_is : (asking_for (bare want) a) ≡ x = cc in
              let fresh : IsActor stands [] (want_at net nothing_yet (out_from (suc s) n) s) p (asking_for (bare want) a) = record {
                saw_end = old.saw_end;
                asked = λ w w_is. shows_bare [] want w (let m : Some w ≡ Some (meaning want (last_seen [])) = sym w_is ∙ want_now ∙ sym means in cc);
                stands_for = old.stands_for;
                looks = old.looks;
                passes = old.passes;
              } in
              subst (λ y. IsActor stands [] (want_at net nothing_yet (out_from (suc s) n) y) p x) (sym z) (subst (IsActor stands [] (want_at net nothing_yet (out_from (suc s) n) s) p) x_is fresh)

  -- Before any

  pub none_called : (stages : List S) (actors : List (Actor S)) (d : DeskState) (pool : PoolState) → AreFresh stands net.strands stages → AreNew stands stages actors → RunStands net nothing_yet (out_from 0 n) d pool →
      IsCalled stands net 0 actors d pool
  none_called stages actors d pool fresh new run = record {
    run = run;
    count = new_length stages actors new ∙ fresh.count;
    each = λ t p x is at.
        let y = new_at stages actors new t x at in
        new_is t p y.0 x y.2 (fresh.each t p y.0 is y.1);
    home = λ t x at. (let y = new_at stages actors new t x at in (y.0, y.2.stage_is));
  }
    where
      new_is : (t : Who) (p : Strand) (stage : S) (x : Actor S) → IsNew stands stage x → stands stage p [] → IsActor stands [] (want_at net nothing_yet (out_from 0 n) t) p x
      new_is t p stage x new stood = record {
        saw_end = new.saw_end;
        asked = λ w w_is. (let no : None ≡ Some w = sym (no_want net t) ∙ w_is in cc);
        stands_for = λ z z_is. (let got : Some stage ≡ Some z = sym new.stage_is ∙ z_is in let same : stage ≡ z = cc in subst (λ v. stands v p []) same stood);
        looks = new.looks p stood;
        passes = λ z yes z_is. (let no : false ≡ true = sym new.passes ∙ yes in cc);
      }

      new_length : (xs : List S) (bs : List (Actor S)) → AreNew stands xs bs → length bs ≡ length xs
      new_length [] [] new = refl
      new_length (x ∷ xs) (a ∷ bs) new = ap suc (new_length xs bs new.1)
      new_length [] (a ∷ bs) new = absurd new
      new_length (x ∷ xs) [] new = absurd new

      new_at : (xs : List S) (bs : List (Actor S)) → AreNew stands xs bs → (t : ℕ) (a : Actor S) → slice_get bs t ≡ Some a → (x : S) × (slice_get xs t ≡ Some x) × IsNew stands x a
      new_at [] [] new t a at = cc
      new_at (x ∷ xs) (b ∷ bs) new zero a at = let same : b ≡ a = cc in (x, refl, subst (λ z. IsNew stands x z) same new.0)
      new_at (x ∷ xs) (b ∷ bs) new (suc t) a at = new_at xs bs new.1 t a at
      new_at [] (b ∷ bs) new t a at = absurd new
      new_at (x ∷ xs) [] new t a at = absurd new

  -- After all

  pub all_called : (actors : List (Actor S)) (d : DeskState) (pool : PoolState) (budget : ℕ) → budget ≤ 50000000 → IsCalled stands net n actors d pool →
      IsSound stands net budget [] [] actors d pool
  all_called actors d pool budget bounded called = record {
    formed = formed;
    legal = tt;
    within = omega arith;
    bounded = bounded;
    last = tt;
    apart = tt;
    run = subst (λ l. RunStands net nothing_yet l d pool) (none_out n) called.run;
    waiting = let none = none_waits net (out_from n n) d pool called.run in omega (arith, none);
    strands = record {
      count = called.count;
      each = λ t p x is at. subst (λ l. IsActor stands [] (want_at net nothing_yet l t) p x) (none_out n) (called.each t p x is at);
      home = λ t x at home. (let y = called.home t x at in ap is_some y.1);
    };
  }

-- Results

pub if_err : {A E : Type 0} {P : Type 0} (r : Result A E) → is_err r ≡ true → OnErr r P → P
if_err (Ok x) is p = cc
if_err (Err e) is p = p

pub if_fine : {A E : Type 0} {P : Type 0} (r : Result A E) → is_err r ≡ false → IfOk r (λ x. P) → P
if_fine (Ok x) is p = p
if_fine (Err e) is p = cc
