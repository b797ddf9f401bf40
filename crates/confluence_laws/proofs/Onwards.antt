-- The test of a net that never stalls implies that it doesn't.
use Rattle.std.proofs.Common.{◌≡◌, ◌⊎◌, inl, inr, ◌≤◌, true, false, refl, ◌&&◌, not, List, arith}
use Rattle.std.proofs.lemmas.Bool.{ltb-true, not-true}
use Rattle.std.specs.List.{list_all}
use Rattle.pipe_model.specs.declared.net.Net.{Net}
use Rattle.pipe_model.specs.declared.net.Strand.{Strand}
use Rattle.pipe_model.specs.declared.step.Entry.{Entry}
use Rattle.pipe_model.specs.Event.{Want}
use Rattle.pipe_model.specs.Event.Want.{Any, Read}
use Rattle.pipe_model.specs.Plain.{is_acyclic}
use Rattle.pipe_model.specs.Play.{HasEnded, IsComplete, IsLegal, play}
use Rattle.pipe_model.specs.Row.{Known}
use Rattle.pipe_model.specs.Shape.{Shape}
use Rattle.pipe_model.specs.Shape.Shape.{Absent, Sources, Lists, Sinks, Firsts, Turns, Rounds, Gates, Dams, Queues}
use Rattle.pipe_model.specs.Table.{line_of}
use Rattle.pipe_model.specs.WellFormed.{IsWellFormed}
use Rattle.pipe_model.proofs.Lists.{all_at}
use Rattle.pipe_model.proofs.Truths.{both}
use Rattle.confluence_laws.specs.Examples.{delayed, joining, queueing, stalling}
use Rattle.confluence_laws.specs.Onward.{is_onward, takes_any, takes_any_of}
use Rattle.confluence_laws.proofs.Acyclic.{acyclic_if}
use Rattle.confluence_laws.proofs.Facts.{asking}
use Rattle.confluence_laws.proofs.Unstalled.{WaitsOnward, never_stalls}

-- what a strand of the shape asks for
any_of : (p : Strand) (shape : Shape) → takes_any_of p shape ≡ true → (k : Known) (want : Want) → asking p shape k want → (want ≡ Any) ⊎ ((want ≡ Read 0) × (p.ports.inputs ≤ 1))
any_of p Absent is k want asked = absurd asked
any_of p (Sources pairs) is k want asked = absurd asked
any_of p (Lists order t) is k want asked = let few = ltb-true p.ports.inputs 2 is in inr (asked.want_is, omega (arith, few))
any_of p (Sinks keeping) is k want asked = let few = ltb-true p.ports.inputs 2 is in inr (asked.want_is, omega (arith, few))
any_of p (Firsts width outs) is k want asked = inl asked.want_is
any_of p (Turns width t) is k want asked = cc
any_of p (Rounds width t) is k want asked = cc
any_of p Gates is k want asked = cc
any_of p Dams is k want asked = cc
any_of p Queues is k want asked = let few = ltb-true p.ports.inputs 2 is in inr (asked.want_is, omega (arith, few))

pub onward_if : (net : Net) → is_onward net ≡ true → WaitsOnward net
onward_if net test =
    let a = both (is_acyclic net) (list_all (λ link. not link.queue) net.links && list_all takes_any net.strands) test in
    let b = both (list_all (λ link. not link.queue) net.links) (list_all takes_any net.strands) a.1 in
    record {
      asks = λ s p here. any_of p (line_of p.kind).shape (all_at takes_any net.strands s b.1 here);
      meets = λ j link at. not-true link.queue (all_at (λ link. not link.queue) net.links j b.0 at);
      acyclic = acyclic_if net a.0;
    }

pub onward_ends : (net : Net) → IsWellFormed net → is_onward net ≡ true → (es : List Entry) → IsLegal net es → IsComplete net es → HasEnded net (play net es)
onward_ends net formed test = never_stalls net formed (onward_if net test)

-- Worked examples

joining_is : is_onward joining ≡ true
joining_is = refl

delayed_is : is_onward delayed ≡ true
delayed_is = refl

-- one that stalls, and one with a queue
stalling_isnt : is_onward stalling ≡ false
stalling_isnt = refl

queueing_isnt : is_onward queueing ≡ false
queueing_isnt = refl
