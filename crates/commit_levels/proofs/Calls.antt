-- What is kept of each level after a call.
use Rattle.std.proofs.Common.{◌≡◌, ◌≢◌, ◌⊎◌, inl, inr, ℕ, zero, suc, ◌+◌, ◌-◌, ◌^◌, ◌<◌, ◌≤◌, Bool, true, false, List, ◌++◌, length, take, get_or, set, replicate, refl, sym, ◌∙◌, ap, subst, arith, ℤ, pos, Option, Some, None, slice_get}
use Rattle.std.specs.Option.{option_map}
use Rattle.std.proofs.lemmas.Bool.Decides.{nat_tests}
use Rattle.std.proofs.lemmas.Grind.{common_steps}
use Rattle.std.proofs.lemmas.Option.{slice_get_read}
use Rattle.std.proofs.lemmas.List.{length-set, length-replicate, get_or-set_same, get_or-set_other}
use Rattle.pipe_model.proofs.Numbers.{equal_or_not}
use Rattle.pipe_model.proofs.Lists.{get_set_same, get_set_other, get_copy, read_copy}
use Rattle.commit_levels.specs.declared.unit.Level.{Level}
use Rattle.commit_levels.specs.declared.member.Progress.{Progress}
use Rattle.commit_levels.specs.declared.member.Progress.TheVariants.{NotAsked, Asked, Reached}
use Rattle.commit_levels.specs.UnitState.{Member, level_count, new_member, progress_at, has_reached, stands_at, early_code, worst_early, moved, ended_with, changed, place_of, IsLive, IsAt, answer_at}
use Rattle.commit_levels.specs.Kept.{standing_at, IsLevelOf, IsKept, closed_level}
use Rattle.commit_levels.proofs.Tallies.{standing_same, standing_more, standing_fewer, standing_all, worst_same, worst_more}

-- Lists

pub change_is : (unit : List Member) (k : ℕ) (m : Member) (change : Member → Member) → slice_get unit k ≡ Some m → set unit k (change m) ≡ changed unit k change
change_is unit k m change at = rw at refl

-- each item below a place was changed, and now the one at it
pub changed_more : {X : Type 0} (f : ℕ → X → X) (xs old : List X) (n : ℕ) (x : X) →
    ((k : ℕ) → k < n → slice_get xs k ≡ option_map (f k) (slice_get old k)) → ((k : ℕ) → n ≤ k → slice_get xs k ≡ slice_get old k) → slice_get xs n ≡ Some x →
    ((k : ℕ) → k < n + 1 → slice_get (set xs n (f n x)) k ≡ option_map (f k) (slice_get old k)) × ((k : ℕ) → n + 1 ≤ k → slice_get (set xs n (f n x)) k ≡ slice_get old k)
changed_more f xs old n x below above at = (λ k m. first k m (equal_or_not k n), λ k m. get_set_other xs n k (f n x) (λ e. absurd (omega (arith, m, e))) ∙ above k (omega (arith, m)))
  where
    first : (k : ℕ) → k < n + 1 → (k ≡ n) ⊎ (k ≢ n) → slice_get (set xs n (f n x)) k ≡ option_map (f k) (slice_get old k)
    first k m (inl e) =
        let P : ℕ → Type 0 = λ j. slice_get (set xs n (f n x)) j ≡ option_map (f j) (slice_get old j) in
        subst P (sym e) (get_set_same xs n (f n x) x at ∙ ap (option_map (f n)) (sym at ∙ above n (omega arith)))
    first k m (inr apart) = get_set_other xs n k (f n x) apart ∙ below k (grind (arith, m, apart))

-- a list that was written over, taken back
pub taken_back : {X : Type 0} (n : ℕ) (xs ys : List X) → length xs ≡ n → take n (xs ++ ys) ≡ xs
taken_back n xs ys e = grind (arith, common_steps)

-- A member that goes on

pub progress_here : (place : ℕ) (progress : Progress) (m : Member) → place < length m.progress → progress_at place (moved place progress m) ≡ progress
progress_here place progress m within = get_or-set_same m.progress place progress NotAsked within

pub progress_there : (place other : ℕ) (progress : Progress) (m : Member) → other ≢ place → progress_at other (moved place progress m) ≡ progress_at other m
progress_there place other progress m apart = get_or-set_other m.progress place other progress NotAsked apart

-- all that is known before a call: what is kept, and the member that the call is about
module _ (unit : List Member) (levels : List Level) (kept : IsKept unit levels) (k : ℕ) (m : Member)
    (at : slice_get unit k ≡ Some m) (live : m.ended ≡ None) where
  -- where a member that hasn't asked for the level stands next, there is room for one more
  pub has_room : (place : ℕ) (level : Level) → slice_get levels place ≡ Some level → progress_at place m ≡ NotAsked → level.standing + 1 < 2 ^ 32
  has_room place level level_at first =
      let off : stands_at place m ≡ false = grind (arith, common_steps) in
      let fewer = standing_fewer place unit k m at off in
      omega (arith, fewer, kept.count, (kept.each place level level_at).standing)

  -- a level for which the member is as before
  still : (n : Member) (place : ℕ) (level : Level) → slice_get levels place ≡ Some level →
      stands_at place n ≡ stands_at place m → early_code place n ≡ early_code place m → IsLevelOf place (set unit k n) level
  still n place level level_at stands early = record {
    standing = (kept.each place level level_at).standing ∙ sym (standing_same place unit k m n at stands);
    worst = (kept.each place level level_at).worst ∙ sym (worst_same place unit k m n at early);
  }

  module _ (place : ℕ) (long : length m.progress ≡ level_count) (within : place < level_count) where
    here : (progress : Progress) → progress_at place (moved place progress m) ≡ progress
    here progress = progress_here place progress m (grind (arith, long, within))

    -- every other level is as before
    elsewhere : (progress : Progress) (other : ℕ) (level : Level) → other ≢ place → slice_get levels other ≡ Some level →
        IsLevelOf other (set unit k (moved place progress m)) level
    elsewhere progress other level apart level_at =
        let there = progress_there place other progress m apart in
        still (moved place progress m) other level level_at (grind (arith, common_steps, there)) (grind (arith, common_steps, there))

    abbrev one_more : Level → Level
    one_more level = record { standing = level.standing + 1; worst = level.worst }

    -- the member asks for the level
    pub kept_asked : (level : Level) → slice_get levels place ≡ Some level → progress_at place m ≡ NotAsked →
        IsKept (set unit k (moved place Asked m)) (set levels place (one_more level))
    kept_asked level level_at first = record {
      count = rw (length-set unit k (moved place Asked m)) kept.count;
      places = length-set levels place (one_more level) ∙ kept.places;
      each = λ other now now_at. by other now now_at (equal_or_not other place);
    }
      where
        on : stands_at place (moved place Asked m) ≡ true
        on = grind (arith, common_steps, here Asked)

        off : stands_at place m ≡ false
        off = grind (arith, common_steps, live, first)

        early : early_code place (moved place Asked m) ≡ early_code place m
        early = grind (arith, common_steps, here Asked)

        some_is : {x y : Level} → Some x ≡ Some y → x ≡ y
        some_is e = cc

        here_now : (now : Level) → one_more level ≡ now → IsLevelOf place (set unit k (moved place Asked m)) now
        here_now now e =
            let P : Level → Type 0 = λ level. IsLevelOf place (set unit k (moved place Asked m)) level in
            subst P e (record {
              standing = ap (λ n. n + 1) (kept.each place level level_at).standing ∙ sym (standing_more place unit k m (moved place Asked m) at off on);
              worst = (kept.each place level level_at).worst ∙ sym (worst_same place unit k m (moved place Asked m) at early);
            })

        by : (other : ℕ) (now : Level) → slice_get (set levels place (one_more level)) other ≡ Some now →
            (other ≡ place) ⊎ (other ≢ place) → IsLevelOf other (set unit k (moved place Asked m)) now
        by other now now_at (inl e) =
            let P : ℕ → Type 0 = λ p. slice_get (set levels place (one_more level)) p ≡ Some now → IsLevelOf p (set unit k (moved place Asked m)) now in
            subst P (sym e) (λ at_place. here_now now (some_is (sym (get_set_same levels place (one_more level) level level_at) ∙ at_place))) now_at
        by other now now_at (inr apart) = elsewhere Asked other now apart (sym (get_set_other levels place other (one_more level) apart) ∙ now_at)

    -- the member reaches the level
    pub kept_reached : progress_at place m ≡ Asked → IsKept (set unit k (moved place Reached m)) levels
    kept_reached asked = record {
      count = rw (length-set unit k (moved place Reached m)) kept.count;
      places = kept.places;
      each = λ other now now_at. by other now now_at (equal_or_not other place);
    }
      where
        here_now : (now : Level) → slice_get levels place ≡ Some now → IsLevelOf place (set unit k (moved place Reached m)) now
        here_now now now_at =
            still (moved place Reached m) place now now_at (grind (arith, common_steps, here Reached)) (grind (arith, common_steps, here Reached))

        by : (other : ℕ) (now : Level) → slice_get levels other ≡ Some now →
            (other ≡ place) ⊎ (other ≢ place) → IsLevelOf other (set unit k (moved place Reached m)) now
        by other now now_at (inl e) =
            let P : ℕ → Type 0 = λ p. slice_get levels p ≡ Some now → IsLevelOf p (set unit k (moved place Reached m)) now in
            subst P (sym e) (here_now now) now_at
        by other now now_at (inr apart) = elsewhere Reached other now apart now_at

  -- the member ends
  pub kept_ended : (code : ℤ) (closed : List Level) →
      ((place : ℕ) → slice_get closed place ≡ option_map (closed_level (progress_at place m) code) (slice_get levels place)) →
      length closed ≡ level_count → IsKept (set unit k (ended_with code m)) closed
  kept_ended code closed each places = record {
    count = rw (length-set unit k (ended_with code m)) kept.count;
    places = places;
    each = λ place now now_at. from place now (slice_get levels place) refl (sym (each place) ∙ now_at);
  }
    where
      counted : (place : ℕ) (was : Level) → slice_get levels place ≡ Some was →
          (closed_level (progress_at place m) code was).standing ≡ standing_at place (set unit k (ended_with code m))
      counted place was was_at = by (stands_at place m) refl
        where
          by : (b : Bool) → stands_at place m ≡ b → (closed_level (progress_at place m) code was).standing ≡ standing_at place (set unit k (ended_with code m))
          by true on =
              let same = standing_same place unit k m (ended_with code m) at (sym on) in
              grind (arith, common_steps, same, (kept.each place was was_at).standing)
          by false off =
              let more = standing_more place unit k m (ended_with code m) at off refl in
              grind (arith, common_steps, more, (kept.each place was was_at).standing)

      worst_now : (place : ℕ) (was : Level) → slice_get levels place ≡ Some was →
          (closed_level (progress_at place m) code was).worst ≡ worst_early place (set unit k (ended_with code m))
      worst_now place was was_at = by (has_reached (progress_at place m)) refl
        where
          none : early_code place m ≡ pos 0
          none = grind (arith, common_steps, live)

          by : (b : Bool) → has_reached (progress_at place m) ≡ b → (closed_level (progress_at place m) code was).worst ≡ worst_early place (set unit k (ended_with code m))
          by true reached =
              let same = worst_same place unit k m (ended_with code m) at (grind (arith, common_steps, reached)) in
              grind (arith, common_steps, same, reached, (kept.each place was was_at).worst)
          by false early =
              let more = worst_more place unit k m (ended_with code m) at none in
              grind (arith, common_steps, more, early, (kept.each place was was_at).worst)

      from : (place : ℕ) (now : Level) (was : Option Level) → slice_get levels place ≡ was →
          option_map (closed_level (progress_at place m) code) was ≡ Some now → IsLevelOf place (set unit k (ended_with code m)) now
      from place now None was_at now_is = cc
      from place now (Some was) was_at now_is =
          let P : Level → Type 0 = λ level. IsLevelOf place (set unit k (ended_with code m)) level in
          subst P (some_of now_is) (record { standing = counted place was was_at; worst = worst_now place was was_at })
        where
          some_of : {x y : Level} → Some x ≡ Some y → x ≡ y
          some_of e = cc

-- A call's unit, in which the member is m

module _ (unit : List Member) (levels : List Level) (kept : IsKept unit levels) (k : ℕ) (m : Member)
    (within : k < length unit) (read : m ≡ get_or unit k m) (live : IsLive unit k) where
  pub member_at : slice_get unit k ≡ Some m
  member_at = slice_get_read unit (length unit) k m refl within read

  module _ (level : ℤ) (place_within : place_of level < level_count) where
    pub room_to_ask : (was : Level) → was ≡ get_or levels (place_of level) was → IsAt unit k level NotAsked → was.standing + 1 < 2 ^ 32
    room_to_ask was was_read first =
        has_room unit levels kept k m member_at (live m member_at) (place_of level) was
        (slice_get_read levels (length levels) (place_of level) was refl (rw kept.places place_within) was_read) (first m member_at)

    pub asks : length m.progress ≡ level_count → (was : Level) → was ≡ get_or levels (place_of level) was → IsAt unit k level NotAsked →
        IsKept (set unit k (moved (place_of level) Asked m)) (set levels (place_of level) (record { standing = was.standing + 1; worst = was.worst }))
    asks long was was_read first =
        kept_asked unit levels kept k m member_at (live m member_at) (place_of level) long place_within was
        (slice_get_read levels (length levels) (place_of level) was refl (rw kept.places place_within) was_read) (first m member_at)

    pub reaches : length m.progress ≡ level_count → IsAt unit k level Asked → IsKept (set unit k (moved (place_of level) Reached m)) levels
    reaches long asked = kept_reached unit levels kept k m member_at (live m member_at) (place_of level) long place_within (asked m member_at)

  pub room_to_end : (place : ℕ) (was : Level) → slice_get levels place ≡ Some was → progress_at place m ≡ NotAsked → was.standing < 2 ^ 32 - 1
  room_to_end place was was_at first = omega (arith, has_room unit levels kept k m member_at (live m member_at) place was was_at first)

  pub ends : (code : ℤ) (closed : List Level) →
      ((place : ℕ) → slice_get closed place ≡ option_map (closed_level (progress_at place m) code) (slice_get levels place)) →
      length closed ≡ length levels → IsKept (set unit k (ended_with code m)) closed
  ends code closed each count = kept_ended unit levels kept k m member_at (live m member_at) code closed each (count ∙ kept.places)

-- A new unit

none_asked : (place : ℕ) → progress_at place new_member ≡ NotAsked
none_asked place = read_copy level_count NotAsked place

none_standing : (place count : ℕ) → standing_at place (replicate count new_member) ≡ 0
none_standing place zero = refl
none_standing place (suc count) = grind (arith, common_steps, none_asked place, none_standing place count)

none_early : (place count : ℕ) → worst_early place (replicate count new_member) ≡ pos 0
none_early place zero = refl
none_early place (suc count) = grind (arith, common_steps, none_asked place, none_early place count)

pub kept_new : (count : ℕ) (levels : List Level) → count < 2 ^ 32 → levels ≡ replicate level_count (record { standing = 0; worst = pos 0 }) → IsKept (replicate count new_member) levels
kept_new count levels fits levels_are = record {
  count = rw (length-replicate count new_member) fits;
  places = ap length levels_are ∙ length-replicate level_count (record { standing = 0; worst = pos 0 });
  each = λ place level at.
      let is : level ≡ record { standing = 0; worst = pos 0 } = get_copy level_count (record { standing = 0; worst = pos 0 }) level place (ap (λ ls. slice_get ls place) (sym levels_are) ∙ at) in
      record {
        standing = ap (λ (l : Level). l.standing) is ∙ sym (none_standing place count);
        worst = ap (λ (l : Level). l.worst) is ∙ sym (none_early place count);
      };
}

-- An answer

module _ (unit : List Member) (levels : List Level) (kept : IsKept unit levels) (place : ℕ) (level : Level)
    (within : place < level_count) (read : level ≡ get_or levels place level) where
  level_at : IsLevelOf place unit level
  level_at = kept.each place level (slice_get_read levels (length levels) place level refl (rw kept.places within) read)

  pub all_stand : level.standing ≡ length unit → Some level.worst ≡ answer_at place unit
  all_stand all = grind (arith, common_steps, nat_tests, level_at.standing, level_at.worst, standing_all place unit)

  pub some_lack : level.standing ≢ length unit → None ≡ answer_at place unit
  some_lack not_all = grind (arith, common_steps, nat_tests, level_at.standing, level_at.worst, standing_all place unit)
