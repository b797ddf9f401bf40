-- The strand of a file that isn't there wants to end, and nothing after that.
use Rattle.std.proofs.Common.{◌≡◌, ℕ, true, false, List, [], ◌∷◌, refl, sym, ap, subst, Some, None, pos}
use Rattle.std.proofs.lemmas.Bool.Decides.{Decides-int_eq}
use Rattle.pipe_model.specs.declared.kind.Kind.TheVariants.{FileIn}
use Rattle.pipe_model.specs.declared.net.Strand.{Strand}
use Rattle.pipe_model.specs.Event.{Event, answers}
use Rattle.pipe_model.specs.Event.Event.{Ended}
use Rattle.pipe_model.specs.Event.Want.{Done}
use Rattle.pipe_model.specs.Next.{next, wanted_by, want_in, past_by, known_after, refused_after, phase_after}
use Rattle.pipe_model.specs.Next.Phase.{Lost}
use Rattle.pipe_model.specs.Shape.{row_of}
use Rattle.pipe_model.specs.Shape.Shape.{Absent}
use Rattle.pipe_model.specs.Table.{line_of}
use Rattle.stage_steps.specs.Coroutine.{owed}
use Rattle.stage_steps.proofs.Drives.{going}

module _ (s : Strand) (name : List ℕ) (is : s.kind ≡ FileIn name None) where
  -- after any event it wants nothing
  lost : (e : Event) (h : List Event) → (past_by (row_of s Absent) s.ports.has_output (e ∷ h)).phase ≡ Lost
  lost e [] = refl
  lost e (e' ∷ h) =
      let p = past_by (row_of s Absent) s.ports.has_output (e' ∷ h) in
      ap (λ f. phase_after (row_of s Absent) s.ports.has_output (known_after f p.known e) (refused_after p.refused e) f e) (lost e' h)

  -- what answers is its end
  is_end : (h : List Event) (e : Event) → answers (wanted_by (row_of s Absent) s.ports.has_output h) e ≡ true → Some (Done (pos 28)) ≡ owed s (e ∷ h)
  is_end [] (Ended code) answer = ap (λ c. Some (Done c)) (sym ((Decides-int_eq code (pos 28)).0 answer))
  is_end [] _ answer = absurd (let z : false ≡ true = answer in let no : ⊥ = cc in no)
  is_end (e' ∷ h) e answer = absurd (let z : false ≡ true = subst (λ f. answers (want_in f) e ≡ true) (lost e' h) answer in let no : ⊥ = cc in no)

  pub ends : (h : List Event) (e : Event) → answers (next s h) e ≡ true → Some (Done (pos 28)) ≡ owed s (e ∷ h)
  ends h e answer = is_end h e (subst (λ k. answers (wanted_by (row_of s (line_of k).shape) s.ports.has_output h) e ≡ true) is (going s h e answer).1)
