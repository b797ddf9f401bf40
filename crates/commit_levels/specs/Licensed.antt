-- Members as the histories and wants of strands tell them, so that a unit's answer is the one that a licence rests on.
use Rattle.std.specs.Prelude.{◌≡◌, false, List, length, ℤ, Option, Some, None, slice_get, if◌then◌else◌}
use Rattle.pipe_model.specs.declared.net.Net.{Net}
use Rattle.pipe_model.specs.Event.{Event, Want, has_ended, has_reached, code_of}
use Rattle.pipe_model.specs.Licence.{Left, want_at, commits_to}
use Rattle.pipe_model.specs.State.{Who, State, past}
use Rattle.commit_levels.specs.declared.member.Progress.{Progress}
use Rattle.commit_levels.specs.declared.member.Progress.TheVariants.{NotAsked, Asked, Reached}
use Rattle.commit_levels.specs.UnitState.{Member, IsLevel, level_count, place_of, progress_at}

-- how far a strand with this history and this want is at a level
abbrev pub progress_of : List Event → Option Want → ℤ → Progress
progress_of h want level = if has_reached level h then Reached else (if commits_to level want then Asked else NotAsked)

-- the code with which a strand with this history ended
abbrev pub end_of : List Event → Option ℤ
end_of h = if has_ended h then Some (code_of h) else None

-- the member is a strand with this history and this want
pub record IsStrand (h : List Event) (want : Option Want) (m : Member) : Type 0 where
  pub count : length m.progress ≡ level_count
  pub progress : (level : ℤ) → IsLevel level → progress_at (place_of level) m ≡ progress_of h want level
  pub ended : m.ended ≡ end_of h

-- the members of the unit are the strands of the net, by their numbers
pub record AreStrands (net : Net) (st : State) (left : Left) (unit : List Member) : Type 0 where
  pub count : length unit ≡ length net.strands
  pub each : (s : Who) (m : Member) → slice_get unit s ≡ Some m → IsStrand (past st s) (want_at net st left s) m

-- the want is not for a level
abbrev pub WantsNoLevel : Option Want → Type 0
WantsNoLevel want = (level : ℤ) → commits_to level want ≡ false
