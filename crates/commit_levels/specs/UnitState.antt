-- A unit of strands: how far each member is at each commit level, and what a level answers.
use Rattle.std.specs.Prelude.{◌≡◌, ℕ, suc, Bool, true, false, ◌||◌, if◌then◌else◌, List, [], ◌∷◌, replicate, ℤ, pos, negsuc, ◌≤ℤ◌, Option, Some, None, is_some, slice_get, slice_index_or, slice_set}
use Rattle.std.specs.List.{list_all}
use Rattle.std.specs.Option.{option_map_or}
use Rattle.pipe_model.specs.Code.{worst_of}
use Rattle.commit_levels.specs.declared.member.Progress.{Progress}
use Rattle.commit_levels.specs.declared.member.Progress.TheVariants.{NotAsked, Asked, Reached}

-- a member: how far it is at each level, the lowest first, and the code with which it ended
pub record Member : Type 0 where
  pub progress : List Progress
  pub ended : Option ℤ

-- Levels

-- the number is a commit level
abbrev pub IsLevel : ℤ → Type 0
IsLevel level = (negsuc 0 ≤ℤ level) × (level ≤ℤ pos 1000)

-- how many levels there are
unfoldable pub level_count : ℕ
level_count = 1002

-- the place of a level among them
abbrev pub place_of : ℤ → ℕ
place_of (pos n) = suc n
place_of (negsuc n) = 0

-- Members

-- how far a member is at the level of a place
abbrev pub progress_at : ℕ → Member → Progress
progress_at place m = slice_index_or m.progress place NotAsked

-- it has asked for the level, whether or not it has reached it
abbrev pub has_asked : Progress → Bool
has_asked NotAsked = false
has_asked Asked = true
has_asked Reached = true

-- it has reached the level
abbrev pub has_reached : Progress → Bool
has_reached NotAsked = false
has_reached Asked = false
has_reached Reached = true

-- the code with which it ended, and 0 before
abbrev pub code_of : Option ℤ → ℤ
code_of None = pos 0
code_of (Some code) = code

-- the member holds up no other one at the level: it has ended, or has asked for it
abbrev pub stands_at : ℕ → Member → Bool
stands_at place m = is_some m.ended || has_asked (progress_at place m)

-- the code of a member that ended without reaching the level, and 0 of any other
abbrev pub early_code : ℕ → Member → ℤ
early_code place m = if has_reached (progress_at place m) then pos 0 else code_of m.ended

-- The answer

-- the worst code of the members that ended without reaching the level, and 0 where there is none
abbrev pub worst_early : ℕ → List Member → ℤ
worst_early place [] = pos 0
worst_early place (m ∷ ms) = worst_of (early_code place m) (worst_early place ms)

-- the answer of the level of a place, once all members stand there
abbrev pub answer_at : ℕ → List Member → Option ℤ
answer_at place unit = if list_all (stands_at place) unit then Some (worst_early place unit) else None

-- the answer of a level
abbrev pub answer : List Member → ℤ → Option ℤ
answer unit level = answer_at (place_of level) unit

-- What a call does

-- a member that has asked for nothing
abbrev pub new_member : Member
new_member = record { progress = replicate level_count NotAsked; ended = None }

-- a unit whose members have asked for nothing
abbrev pub new_unit : ℕ → List Member
new_unit count = replicate count new_member

-- a member that went on to this progress at the level of a place
abbrev pub moved : ℕ → Progress → Member → Member
moved place progress m = record { progress = slice_set m.progress place progress; ended = m.ended }

-- a member that ended with this code
abbrev pub ended_with : ℤ → Member → Member
ended_with code m = record { progress = m.progress; ended = Some code }

-- the unit in which the k-th member changed so
abbrev pub changed : List Member → ℕ → (Member → Member) → List Member
changed unit k change = option_map_or (λ m. slice_set unit k (change m)) (slice_get unit k) unit

-- a member asked for a level, reached one, ended with a code
abbrev pub asked_by : List Member → ℕ → ℤ → List Member
asked_by unit k level = changed unit k (moved (place_of level) Asked)

abbrev pub reached_by : List Member → ℕ → ℤ → List Member
reached_by unit k level = changed unit k (moved (place_of level) Reached)

abbrev pub ended_by : List Member → ℕ → ℤ → List Member
ended_by unit k code = changed unit k (ended_with code)

-- When a call may be made

-- the k-th member hasn't ended
abbrev pub IsLive : List Member → ℕ → Type 0
IsLive unit k = (m : Member) → slice_get unit k ≡ Some m → m.ended ≡ None

-- the k-th member is this far at a level
abbrev pub IsAt : List Member → ℕ → ℤ → Progress → Type 0
IsAt unit k level progress = (m : Member) → slice_get unit k ≡ Some m → progress_at (place_of level) m ≡ progress
