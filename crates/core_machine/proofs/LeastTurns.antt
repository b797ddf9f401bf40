-- A turn of the least strand that may have an event answers as one of that strand on its least stream.
use Rattle.std.proofs.Common.{◌≡◌, ℕ, true, false, List, Some, is_some, sym, ◌∙◌, ap, subst}
use Rattle.pipe_model.specs.declared.net.Strand.{Strand}
use Rattle.pipe_model.specs.Event.{Event}
use Rattle.core_machine.specs.declared.job.Turned.{Turned}
use Rattle.core_machine.specs.declared.job.Turned.TheVariants.{Broken, NotReady, Spent, Room, Work}
use Rattle.core_machine.specs.Answered.{LeastReady, TurnedAs, LeastTurnedAs}
use Rattle.core_machine.specs.Machine.{Machine}

pub least_turned : {S : Type 0} (stands : S → Strand → List Event → Type 0) (m : Machine) (s k room : ℕ) (answer : Turned S) (n : Machine) (bytes : List ℕ) →
    LeastReady m (Some (s, k)) → m.is_broken ≡ false → TurnedAs stands m s k room answer n bytes → LeastTurnedAs stands m room answer n bytes
least_turned stands m s k room Broken n bytes least whole told = let no : true ≡ false = sym told.0 ∙ whole in absurd (let q : ⊥ = cc in q)
least_turned stands m s k room NotReady n bytes least whole told = let no : true ≡ false = sym least.0 ∙ ap is_some told.1 in absurd (let q : ⊥ = cc in q)
least_turned stands m s k room Spent n bytes least whole told = ((s, k), least, told)
least_turned stands m s k room (Room size) n bytes least whole told = ((s, k), least, told)
least_turned stands m s k room (Work job) n bytes least whole told =
    let both = subst (λ t. LeastReady m (Some (t, k)) × TurnedAs stands m t k room (Work job) n bytes) (sym told.3) (least, told) in
    (k, both.0, both.1)
