-- What the two strands did is a run of the core.
use Rattle.std.proofs.Common.{◌≡◌, ◌<◌, ◌≤◌, ◌++◌, ◌∷◌, [], Some, true, length, refl, sym, ◌∙◌, ap, subst, arith, vec_capacity}
use Rattle.pipe_model.specs.declared.net.Net.{Net}
use Rattle.pipe_model.specs.declared.step.Seen.TheVariants.{Put}
use Rattle.core_machine.specs.declared.run.Which.TheVariants.{OfRecords}
use Rattle.core_machine.specs.declared.showing.Relayed.TheVariants as Next
use Rattle.core_machine.specs.Answered.{LeastEvent}
use Rattle.core_machine.specs.Machine.{Machine}
use Rattle.core_machine.specs.Pairs.{Follows}
use Rattle.core_machine.specs.Runs.{HasRelayed, HasRunBy, HasBrokenBy, is_made}
use Rattle.core_machine.specs.Woken.{LeastEventAwake}
use Rattle.core_machine.proofs.Rounds.{sound_up_to}
use Rattle.core_machine.proofs.Runs.{err_so, ok_each, ok_once}
use Rattle.core_machine.proofs.Sounds.{event_back, event_is}
use Rattle.core_machine.proofs.core_state.Core.relay.Goals as goal

pub relay-relayed-requires-clause-due : goal.relay-relayed-requires-clause-due
relay-relayed-requires-clause-due g c =
    let i = c.self.inside in
    let v : ◌≡◌ {A = Machine} (record { net = i.floor.net; budget = i.budget; journal = i.journal.items; out = i.out.items; is_broken = i.is_broken }) c.args.self.now = c.self.view_is in
    let whose = c.in-Some.ensures.whose in
    let least = subst (λ (z : Machine). LeastEvent z (Some (c.args.strand, c.args.o, Put c.args.o))) (sym v) c.requires.least in
    let on = event_back g.S.Stage.stands i.floor.net i.budget i.journal.items i.out.items i.actors.items i.floor.desk i.floor.pool c.self.invariant.0 i.is_broken (c.args.strand, c.args.o, Put c.args.o) least in (
      c.in-Some.ensures.pair,
      subst (λ s. LeastEventAwake i.floor.desk (Some (s, c.in-Some.pair.output, Put c.in-Some.pair.output))) (sym whose.0)
          (subst (λ k. LeastEventAwake i.floor.desk (Some (c.args.strand, k, Put k))) (sym whose.1) on),
    )

pub invariant_of-self : goal.invariant_of-self
invariant_of-self g c =
    let i = c.self.inside in
    let n = c.relay-relayed.new in
    let v : ◌≡◌ {A = Machine} (record { net = i.floor.net; budget = i.budget; journal = i.journal.items; out = i.out.items; is_broken = i.is_broken }) c.args.self.now = c.self.view_is in
    let limit = subst (λ (z : Machine). c.args.limit ≤ z.budget) (sym v) c.requires.limit in
    let on = c.relay-relayed.ensures.sound in
    let within = on.within in
    let sound = sound_up_to g.S.Stage.stands n.floor.net c.args.limit i.budget n.journal.items n.out.items n.actors.items n.floor.desk n.floor.pool on (omega (arith, within, limit)) c.self.invariant.0.bounded in (
      sound,
      subst (λ z. i.budget ≤ z) (sym c.relay-relayed.ensures.capacity) c.self.invariant.1,
      subst (λ (z : Net). length z.strands ≤ vec_capacity n.out) (sym c.relay-relayed.ensures.net) (subst (λ z. length i.floor.net.strands ≤ z) (sym c.relay-relayed.ensures.capacity_out) c.self.invariant.2),
    )

pub invariant_of-self-else-is_err : goal.invariant_of-self-else-is_err
invariant_of-self-else-is_err g c =
    let i = c.self.inside in
    let n = c.relay-relayed.new in
    let v : ◌≡◌ {A = Machine} (record { net = i.floor.net; budget = i.budget; journal = i.journal.items; out = i.out.items; is_broken = i.is_broken }) c.args.self.now = c.self.view_is in
    let limit = subst (λ (z : Machine). c.args.limit ≤ z.budget) (sym v) c.requires.limit in
    let on = c.relay-relayed.ensures.sound in
    let within = on.within in
    let sound = sound_up_to g.S.Stage.stands n.floor.net c.args.limit i.budget n.journal.items n.out.items n.actors.items n.floor.desk n.floor.pool on (omega (arith, within, limit)) c.self.invariant.0.bounded in (
      sound,
      subst (λ z. i.budget ≤ z) (sym c.relay-relayed.ensures.capacity) c.self.invariant.1,
      subst (λ (z : Net). length z.strands ≤ vec_capacity n.out) (sym c.relay-relayed.ensures.net) (subst (λ z. length i.floor.net.strands ≤ z) (sym c.relay-relayed.ensures.capacity_out) c.self.invariant.2),
    )

pub returns-then-is_err-clause-lacks : goal.returns-then-is_err-clause-lacks
returns-then-is_err-clause-lacks g c =
    let i = c.self.inside in
    let n = c.relay-relayed.new in
    let v : ◌≡◌ {A = Machine} (record { net = i.floor.net; budget = i.budget; journal = i.journal.items; out = i.out.items; is_broken = i.is_broken }) c.args.self.now = c.self.view_is in
    let broken : Machine = record { net = n.floor.net; budget = i.budget; journal = n.journal.items; out = n.out.items; is_broken = true } in
    err_so (HasRelayed i.floor.net i.out.items i.journal.items n.journal.items × (length i.journal.items < length n.journal.items) × (n.out.items ≡ i.out.items ++ length n.journal.items ∷ []))
    (HasBrokenBy (is_made OfRecords) c.args.limit c.args.self.now broken) c.relay-relayed.result
    (λ lacks. subst (λ (z : Machine). HasBrokenBy (is_made OfRecords) c.args.limit z broken) v (record {
      broke = record { broken = refl; net = c.relay-relayed.ensures.net; budget = refl; longer = (lacks.0.0, lacks.0.1); more = lacks.1; out = lacks.2 };
      steps = lacks.0.2 i.budget i.is_broken;
      within = c.relay-relayed.ensures.sound.within;
    })) c.relay-relayed.ensures.lacks

pub returns-else-is_err-clause-goes : goal.returns-else-is_err-clause-goes
returns-else-is_err-clause-goes g c =
    let i = c.self.inside in
    let n = c.relay-relayed.new in
    let v : ◌≡◌ {A = Machine} (record { net = i.floor.net; budget = i.budget; journal = i.journal.items; out = i.out.items; is_broken = i.is_broken }) c.args.self.now = c.self.view_is in
    ok_once (λ next. HasRelayed i.floor.net i.out.items i.journal.items n.journal.items × (n.out.items ≡ i.out.items) × Follows next n.floor c.in-Some.pair i.journal.items n.journal.items)
    (HasRunBy (is_made OfRecords) c.args.self.now (record { net = n.floor.net; budget = i.budget; journal = n.journal.items; out = n.out.items; is_broken = i.is_broken })) c.relay-relayed.result
    (λ next on. subst (λ (z : Machine). HasRunBy (is_made OfRecords) z (record { net = n.floor.net; budget = i.budget; journal = n.journal.items; out = n.out.items; is_broken = i.is_broken })) v (record {
      more = on.0.0;
      steps = on.0.2 i.budget i.is_broken;
      after = ap (λ x. record { net = x; budget = i.budget; journal = n.journal.items; out = n.out.items; is_broken = i.is_broken }) c.relay-relayed.ensures.net
          ∙ ap (λ x. record { net = i.floor.net; budget = i.budget; journal = x; out = n.out.items; is_broken = i.is_broken }) on.0.1
          ∙ ap (λ x. record { net = i.floor.net; budget = i.budget; journal = i.journal.items ++ on.0.0; out = x; is_broken = i.is_broken }) on.1;
    })) c.relay-relayed.ensures.goes

pub returns-else-is_err-clause-more : goal.returns-else-is_err-clause-more
returns-else-is_err-clause-more g c =
    let i = c.self.inside in
    let n = c.relay-relayed.new in
    let v : ◌≡◌ {A = Machine} (record { net = i.floor.net; budget = i.budget; journal = i.journal.items; out = i.out.items; is_broken = i.is_broken }) c.args.self.now = c.self.view_is in
    ok_each (λ next. HasRelayed i.floor.net i.out.items i.journal.items n.journal.items × (n.out.items ≡ i.out.items) × Follows next n.floor c.in-Some.pair i.journal.items n.journal.items)
    (λ next. next ≡ Next.Home → length c.args.self.now.journal < length n.journal.items) c.relay-relayed.result
    (λ next on home. subst (λ (z : Machine). length z.journal < length n.journal.items) v (subst (λ k. Follows k n.floor c.in-Some.pair i.journal.items n.journal.items) home on.2)) c.relay-relayed.ensures.goes

pub returns-else-is_err-clause-due : goal.returns-else-is_err-clause-due
returns-else-is_err-clause-due g c =
    let i = c.self.inside in
    let n = c.relay-relayed.new in
    let v : ◌≡◌ {A = Machine} (record { net = i.floor.net; budget = i.budget; journal = i.journal.items; out = i.out.items; is_broken = i.is_broken }) c.args.self.now = c.self.view_is in
    let limit = subst (λ (z : Machine). c.args.limit ≤ z.budget) (sym v) c.requires.limit in
    let on = c.relay-relayed.ensures.sound in
    let within = on.within in
    let sound = sound_up_to g.S.Stage.stands n.floor.net c.args.limit i.budget n.journal.items n.out.items n.actors.items n.floor.desk n.floor.pool on (omega (arith, within, limit)) c.self.invariant.0.bounded in
    let whose = c.in-Some.ensures.whose in
    ok_each (λ next. HasRelayed i.floor.net i.out.items i.journal.items n.journal.items × (n.out.items ≡ i.out.items) × Follows next n.floor c.in-Some.pair i.journal.items n.journal.items)
    (λ next. next ≡ Next.Due → LeastEvent (record { net = n.floor.net; budget = i.budget; journal = n.journal.items; out = n.out.items; is_broken = i.is_broken }) (Some (c.args.strand, c.args.o, Put c.args.o))) c.relay-relayed.result
    (λ next follows due. event_is g.S.Stage.stands n.floor.net i.budget n.journal.items n.out.items n.actors.items n.floor.desk n.floor.pool sound i.is_broken (Some (c.args.strand, c.args.o, Put c.args.o))
    (subst (λ s. LeastEventAwake n.floor.desk (Some (s, c.args.o, Put c.args.o))) whose.0
    (subst (λ k. LeastEventAwake n.floor.desk (Some (c.in-Some.pair.strand, k, Put k))) whose.1 (subst (λ k. Follows k n.floor c.in-Some.pair i.journal.items n.journal.items) due follows.2).1))) c.relay-relayed.ensures.goes
