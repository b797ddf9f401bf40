-- Cutting a view in two, joining two, and the first one keep the rule.
use Rattle.std.proofs.Common.{◌≡◌, ℕ, ◌+◌, ◌<◌, ◌≤◌, ◌≢◌, cond, List, [], ◌∷◌, ◌++◌, length, set, sym, refl, ap, ◌∙◌, subst, ⊎_elim, arith, length-append, lt-ltb, le-ltb, ltb, Some, None, Bool, true, false}
use mathlib.Core.Logic.{dite}
use mathlib.Core.List.{IsPrefix}
use mathlib.Core.Option.{some, some-injective, some-ne-none}
use native.Mathlib.Decide.{ℕ_discrete, dec_le}
use lib.ListN.{get_elem?}
use Rattle.atomic_table.specs.Table.{opening, Splits, Joins}
use Rattle.atomic_table.proofs.Lists.{at_set, set_here, set_else, at_snoc, at_longer}
use Rattle.pipe_model.specs.declared.step.Entry.{Entry}
use Rattle.core_machine.specs.Machine.{Machine, IsLawful}
use Rattle.std.specs.Prelude.{nat_lt, sum_by}
use Rattle.board.specs.Counts.{times}
use Rattle.board.specs.Rule.{Kept, machine_of, IsIdle, Fits, HasLatest, IsOrdered}
use Rattle.board.specs.Plays.{founder, blank, kept_part, given_part, longer, shorter, both}
use Rattle.board.specs.declared.view.View.{View}
use Rattle.std.proofs.lemmas.List.Sums.{sum_by_push}
use Rattle.board.proofs.Sums.{sum-one, sum-set, times-append, inside}
use Rattle.board.proofs.Prefixes.{prefix_self, prefix_shorter, prefix_whole, prefix_length}
use Rattle.board.proofs.Moves.{held_count, holding, same_machine}

pub cuts : (n id : ℕ) (v : View) → 2 ≤ v.shares → n ≤ v.tries → v.held ≡ None → Splits IsOrdered id v (kept_part n v) (given_part n v)
cuts n id v two enough none_held s o at =
    let l : View = kept_part n v in let r : View = given_part n v in let vs : List View = set s.views id l in let f : Fits o.now v = o.fits id v at in
    let near : id < length s.views = inside s.views id v at in
    let sum : (g : View → ℕ) → sum_by g (vs ++ r ∷ []) + g v ≡ sum_by g s.views + g l + g r = λ g. let a = sum-set g s.views id v l at in let b = sum_by_push g vs r in omega arith in
    let fits_left : Fits o.now l = record { net = λ h. f.net (omega arith); seen = f.seen; told = f.told; parts = f.parts; turn = f.turn; used = f.used; idle = λ z. absurd (omega arith) } in
    let fits_right : Fits o.now r = record { net = λ h. f.net (omega arith); seen = f.seen; told = (v.seen, refl); parts = λ p. omega arith; turn = f.turn; used = omega arith; idle = λ z. absurd (omega arith) } in
    -- a fact of the left view, of the right one, and of the others, is one of all
    let each : (P : View → Type 0) → P l → P r → ((j : ℕ) (u : View) → get_elem? s.views j ≡ some u → P u) → (j : ℕ) (u : View) → get_elem? (vs ++ r ∷ []) j ≡ some u → P u = λ P a b c j u e.
    ⊎_elim (λ (t : get_elem? vs j ≡ some u). ⊎_elim (λ (q : (j ≡ id) × (l ≡ u)). subst P q.1 a) (λ (q : (j ≢ id) × (get_elem? s.views j ≡ some u)). c j u q.1) (at_set s.views id j l u t)) (λ (t : r ≡ u). subst P t b) (at_snoc vs r u j e) in
    record {
      now = o.now;
      words = o.words;
      long = o.long;
      lawful = o.lawful;
      home = o.home;
      away = o.away;
      holders = let a = sum holding in let b = o.holders in let none_here : held_count v.held ≡ 0 = ap held_count none_held in omega arith;
      held = λ j u k e. each (λ (y : View). y.held ≡ Some k → k ≡ o.now) (λ h. o.held id v k at h) (λ h. absurd (cc h)) (λ i y h. o.held i y k h) j u e;
      fits = each (Fits o.now) fits_left fits_right o.fits;
      fresh = λ free. each (λ (y : View). 0 < y.shares → y.turn ≡ o.now.1 → machine_of y ≡ o.now.0)
          (λ _ t. o.fresh free id v at (omega arith) t)
          (λ _ t. o.fresh free id v at (omega arith) t) (o.fresh free);
      latest = λ free. let t : HasLatest o.now s.views = o.latest free in dite (ℕ_discrete t.seat id)
          (λ e. let same : t.view ≡ v = some-injective t.view v (sym t.is ∙ (ap (get_elem? s.views) e ∙ at)) in
          record { seat = id; view = l; is = at_longer vs (r ∷ []) id l (set_here s.views id l near); shares = omega arith; turn = ap (λ (y : View). y.turn) (sym same) ∙ t.turn })
          (λ ne. record { seat = t.seat; view = t.view; is = at_longer vs (r ∷ []) t.seat t.view (set_else s.views id t.seat l ne ∙ t.is); shares = t.shares; turn = t.turn });
      mine = λ p. let a = sum (λ (u : View). times p u.mine) in let b = o.mine p in omega arith;
      jobs = λ p. let a = sum (λ (u : View). times p u.home) in let b = o.jobs p in omega arith;
      lost = let a = sum (λ (u : View). length u.lost) in let e : sum_by (λ (u : View). length u.lost) (vs ++ r ∷ []) ≡ sum_by (λ (u : View). length u.lost) s.views = omega arith in o.lost ∙ ap (nat_lt 0) (sym e);
      turns = let a = sum (λ (u : View). u.holds) in let b = o.turns in omega arith;
      tries = let a = sum (λ (u : View). u.tries) in let a' = sum (λ (u : View). u.used) in let b = o.tries in omega arith;
      shares = let a = sum (λ (u : View). u.shares) in let b = o.shares in omega arith;
    }

prefix_longer : (xs ys zs : List Entry) → IsPrefix xs zs → IsPrefix ys zs → IsPrefix (longer xs ys) zs × IsPrefix (shorter xs ys) (longer xs ys) × (xs ≡ zs → longer xs ys ≡ zs) × (ys ≡ zs → longer xs ys ≡ zs)
prefix_longer xs ys zs p q =
    let F : Bool → Type 0 = λ b. IsPrefix (cond b ys xs) zs × IsPrefix (cond b xs ys) (cond b ys xs) × (xs ≡ zs → cond b ys xs ≡ zs) × (ys ≡ zs → cond b ys xs ≡ zs) in
    dite (dec_le (length ys) (length xs))
    (λ le. subst F (sym (le-ltb (length xs) (length ys) le)) (p, prefix_shorter ys xs zs q p le, (λ e. e), λ e. prefix_whole xs zs p (let same = ap length e in omega arith)))
    (λ gt. subst F (sym (lt-ltb (length xs) (length ys) (omega arith))) (q, prefix_shorter xs ys zs p q (omega arith), (λ e. let same = ap length e in let le = prefix_length ys zs q in absurd (omega arith)), λ e. e))

-- of two views, what the one with the greater number knows
later_of : (now : Kept) (v w : View) → (now.0.net ≡ v.net) × (now.0.budget ≡ v.budget) → v.turn ≤ now.1 → w.turn ≤ now.1 → (v.turn ≡ now.1 → machine_of v ≡ now.0) → (w.turn ≡ now.1 → machine_of w ≡ now.0) → IsPrefix v.seen now.0.journal → IsPrefix w.seen now.0.journal
    → ((both v w).turn ≤ now.1) × ((both v w).turn ≡ now.1 → machine_of (both v w) ≡ now.0) × (v.turn ≡ now.1 → (both v w).turn ≡ now.1) × (w.turn ≡ now.1 → (both v w).turn ≡ now.1)
later_of now v w net a b fv fw pv pw =
    let l = prefix_longer v.seen w.seen now.0.journal pv pw in
    let seen : Machine → List Entry = λ m. m.journal in let out : Machine → List ℕ = λ m. m.out in let broken : Machine → Bool = λ m. m.is_broken in
    let F : Bool → Type 0 = λ c. (cond c w.turn v.turn ≤ now.1)
    × (cond c w.turn v.turn ≡ now.1 → (longer v.seen w.seen ≡ now.0.journal) × (cond c w.out v.out ≡ now.0.out) × (cond c w.is_broken v.is_broken ≡ now.0.is_broken))
    × (v.turn ≡ now.1 → cond c w.turn v.turn ≡ now.1) × (w.turn ≡ now.1 → cond c w.turn v.turn ≡ now.1) in
    let t : F (ltb v.turn w.turn) = dite (dec_le w.turn v.turn)
    (λ le. subst F (sym (le-ltb v.turn w.turn le)) (a, (λ e. let q = fv e in (l.2 (ap seen q), ap out q, ap broken q)), (λ e. e), λ e. omega arith))
    (λ gt. subst F (sym (lt-ltb v.turn w.turn (omega arith))) (b, (λ e. let q = fw e in (l.3 (ap seen q), ap out q, ap broken q)), (λ e. omega arith), λ e. e)) in
    (t.0, (λ e. let q = t.1 e in same_machine (machine_of (both v w)) now.0 (sym net.0) (sym net.1) q.0 q.1 q.2), t.2, t.3)

pub joins : (id : ℕ) (v : View) (other : ℕ) (w : View) → 0 < v.shares → 0 < w.shares → v.held ≡ None → w.held ≡ None → Joins IsOrdered id v other w (both v w) blank
joins id v other w some_v some_w free_v free_w s o at apart them =
    let u : View = both v w in let vs : List View = set s.views id u in let all : List View = set vs other blank in let now : Kept = o.now in
    let there : get_elem? s.views other ≡ some w = sym (set_else s.views id other u apart) ∙ them in
    let near : id < length s.views = inside s.views id v at in
    let fv : Fits now v = o.fits id v at in let fw : Fits now w = o.fits other w there in
    let sum : (g : View → ℕ) → sum_by g all + g w + g v ≡ sum_by g s.views + g u + g blank = λ g. let a = sum-set g s.views id v u at in let b = sum-set g vs other w blank them in omega arith in
    let l = prefix_longer v.seen w.seen now.0.journal fv.seen fw.seen in
    let here : get_elem? all id ≡ some u = set_else vs other id blank (λ e. apart (sym e)) ∙ set_here s.views id u near in
    let idle : IsIdle blank = record { held = refl; mine = refl; lost = refl; numbers = (refl, refl, refl) } in
    let turn_le : u.turn ≤ now.1 = let F : Bool → Type 0 = λ c. cond c w.turn v.turn ≤ now.1 in elim (ltb v.turn w.turn) as F [ true ↦ fw.turn | false ↦ fv.turn ] in
    let fits_both : Fits now u = record {
      net = λ h. fv.net some_v;
      seen = l.0;
      told = l.1;
      parts = λ p. let a = fv.parts p in let b = fw.parts p in let c = times-append p v.mine w.mine in let d = times-append p v.home w.home in let e = times-append p v.lost w.lost in omega arith;
      turn = turn_le;
      used = let a = fv.used in let b = fw.used in omega arith;
      idle = λ z. absurd (omega arith);
    } in
    let fits_blank : Fits now blank = record { net = λ h. absurd (omega arith); seen = (now.0.journal, refl); told = ([], refl); parts = λ p. omega arith; turn = omega arith; used = omega arith; idle = λ _. idle } in
    let each : (P : View → Type 0) → P u → P blank → ((j : ℕ) (y : View) → get_elem? s.views j ≡ some y → P y) → (j : ℕ) (y : View) → get_elem? all j ≡ some y → P y = λ P a b c j y e.
    ⊎_elim (λ (t : (j ≡ other) × (blank ≡ y)). subst P t.1 b)
    (λ (t : (j ≢ other) × (get_elem? vs j ≡ some y)). ⊎_elim (λ (q : (j ≡ id) × (u ≡ y)). subst P q.1 a) (λ (q : (j ≢ id) × (get_elem? s.views j ≡ some y)). c j y q.1) (at_set s.views id j u y t.1)) (at_set vs other j blank y e) in
    record {
      now = now;
      words = o.words;
      long = o.long;
      lawful = o.lawful;
      home = o.home;
      away = o.away;
      holders = let a = sum holding in let b = o.holders in let nv : held_count v.held ≡ 0 = ap held_count free_v in let nw : held_count w.held ≡ 0 = ap held_count free_w in omega arith;
      held = λ j y k e. each (λ (z : View). z.held ≡ Some k → k ≡ now) (λ h. absurd (cc h)) (λ h. absurd (cc h)) (λ i z h. o.held i z k h) j y e;
      fits = each (Fits now) fits_both fits_blank o.fits;
      fresh = λ free. let t = later_of now v w (fv.net some_v) fv.turn fw.turn (o.fresh free id v at some_v) (o.fresh free other w there some_w) fv.seen fw.seen in
          each (λ (z : View). 0 < z.shares → z.turn ≡ now.1 → machine_of z ≡ now.0) (λ _ e. t.1 e) (λ none_here. absurd (omega arith)) (o.fresh free);
      latest = λ free. let t : HasLatest now s.views = o.latest free in let q = later_of now v w (fv.net some_v) fv.turn fw.turn (o.fresh free id v at some_v) (o.fresh free other w there some_w) fv.seen fw.seen in
          dite (ℕ_discrete t.seat id)
          (λ e. let same : t.view ≡ v = some-injective t.view v (sym t.is ∙ (ap (get_elem? s.views) e ∙ at)) in
          record { seat = id; view = u; is = here; shares = omega arith; turn = q.2 (ap (λ (y : View). y.turn) (sym same) ∙ t.turn) })
          (λ ne. dite (ℕ_discrete t.seat other)
          (λ e. let same : t.view ≡ w = some-injective t.view w (sym t.is ∙ (ap (get_elem? s.views) e ∙ there)) in
          record { seat = id; view = u; is = here; shares = omega arith; turn = q.3 (ap (λ (y : View). y.turn) (sym same) ∙ t.turn) })
          (λ nw. record { seat = t.seat; view = t.view; is = set_else vs other t.seat blank nw ∙ (set_else s.views id t.seat u ne ∙ t.is); shares = t.shares; turn = t.turn }));
      mine = λ p. let a = sum (λ (y : View). times p y.mine) in let b = o.mine p in let c = times-append p v.mine w.mine in omega arith;
      jobs = λ p. let a = sum (λ (y : View). times p y.home) in let b = o.jobs p in let c = times-append p v.home w.home in omega arith;
      lost = let a = sum (λ (y : View). length y.lost) in let c = length-append v.lost w.lost in let e : sum_by (λ (y : View). length y.lost) all ≡ sum_by (λ (y : View). length y.lost) s.views = omega arith in o.lost ∙ ap (nat_lt 0) (sym e);
      turns = let a = sum (λ (y : View). y.holds) in let b = o.turns in omega arith;
      tries = let a = sum (λ (y : View). y.tries) in let a' = sum (λ (y : View). y.used) in let b = o.tries in omega arith;
      shares = let a = sum (λ (y : View). y.shares) in let b = o.shares in omega arith;
    }

pub opens : (m : Machine) → IsLawful m → m.out ≡ [] → m.is_broken ≡ false → IsOrdered (opening (length m.journal ∷ 0 ∷ []) (Some (m, 0) ∷ []) (founder m))
opens m lawful quiet sound =
    let v : View = founder m in let now : Kept = (m, 0) in
    let first : (P : View → Type 0) → P v → (j : ℕ) (u : View) → get_elem? (v ∷ []) j ≡ some u → P u = λ P a j u e. ⊎_elim (λ (t : get_elem? [] j ≡ some u). absurd (some-ne-none u (sym t))) (λ (t : v ≡ u). subst P t a) (at_snoc [] v u j e) in
    record {
      now = now;
      words = refl;
      long = refl;
      lawful = lawful;
      home = λ _. refl;
      away = λ h. absurd (omega arith);
      holders = refl;
      held = λ j u k. first (λ (y : View). y.held ≡ Some k → k ≡ now) (λ h. absurd (cc h)) j u;
      fits = first (Fits now) (record {
        net = λ _. (refl, refl);
        seen = prefix_self m.journal;
        told = (m.journal, refl);
        parts = λ p. omega arith;
        turn = omega arith;
        used = omega arith;
        idle = λ h. absurd (omega arith);
      });
      fresh = λ _. first (λ (y : View). 0 < y.shares → y.turn ≡ 0 → machine_of y ≡ m) (λ _ _. same_machine (machine_of v) m refl refl refl (sym quiet) (sym sound));
      latest = λ _. record { seat = 0; view = v; is = refl; shares = omega arith; turn = refl };
      mine = λ p. sum-one (λ (u : View). times p u.mine) v;
      jobs = λ p. let a = sum-one (λ (u : View). times p u.home) v in let b = ap (times p) quiet in omega arith;
      lost = sound;
      turns = refl;
      tries = refl;
      shares = refl;
    }
