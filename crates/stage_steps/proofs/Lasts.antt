-- The record last seen, where one was, is the one that is written as the same.
use Rattle.std.proofs.Common.{◌≡◌, ℕ, Bool, true, false, cond, ◌==◌, List, [], ◌∷◌, refl, Some}
use Rattle.std.specs.Prelude.{unwrap_or}
use Rattle.pipe_model.specs.Event.{Event, last_seen_on}
use Rattle.pipe_model.specs.Event.Event.{Up, Saw, SawEnd, SawAllEnd, Took, Put, Refused, Primed, Opened, Joined, Severed, Ended}
use Rattle.stage_steps.specs.Coroutine.{record_seen_on}

-- where none was, it stands for an empty one
pub last_is : (i : ℕ) (h : List Event) → unwrap_or (record_seen_on i h) [] ≡ last_seen_on i h
last_is i [] = refl
last_is i (Saw i' rec ∷ h) = go (i' == i) (last_is i h)
  where
    go : (b : Bool) → unwrap_or (record_seen_on i h) [] ≡ last_seen_on i h → unwrap_or (cond b (Some rec) (record_seen_on i h)) [] ≡ cond b rec (last_seen_on i h)
    go true before = refl
    go false before = before
last_is i (Up level code ∷ h) = last_is i h
last_is i (SawEnd i' ∷ h) = last_is i h
last_is i (SawAllEnd ∷ h) = last_is i h
last_is i (Took i' ∷ h) = last_is i h
last_is i (Put o rec ∷ h) = last_is i h
last_is i (Refused o ∷ h) = last_is i h
last_is i (Primed b ∷ h) = last_is i h
last_is i (Opened k ∷ h) = last_is i h
last_is i (Joined k code ∷ h) = last_is i h
last_is i (Severed s ∷ h) = last_is i h
last_is i (Ended code ∷ h) = last_is i h
