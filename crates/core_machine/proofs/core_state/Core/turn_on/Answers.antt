use Rattle.std.proofs.Common.{rules, ◌≡◌, ◌<◌, ◌≤◌, Some, false, length, vec_capacity, is_some, ◌∷◌, arith, refl, sym, ◌∙◌, ap, subst}
use Rattle.pipe_model.specs.State.{past}
use Rattle.pipe_model.specs.Play.{play}
use Rattle.stage_steps.specs.Coroutine.{bytes_with}
use Rattle.core_machine.specs.Machine.{Machine, licence_of, state_of, looks_at, turned, IsLawful}
use Rattle.core_machine.proofs.Plays.{look_of}
use Rattle.core_machine.proofs.Sounds.{turned_past, goes_on, lawful_turned}
use Rattle.core_machine.proofs.core_state.Core.turn_on.Goals as goal

pub returns-then-len-self-clause-turned : goal.returns-then-len-self-clause-turned
returns-then-len-self-clause-turned g c =
    let i = c.self.inside in
    let v : ◌≡◌ {A = Machine} (record { net = i.floor.net; budget = i.budget; journal = i.journal.items; out = i.out.items; is_broken = i.is_broken }) c.args.self.now = c.self.view_is in
    let whole : c.args.self.now.is_broken ≡ false = c.requires.whole in
    let some = c.requires.may in
    let here : licence_of (record { net = i.floor.net; budget = i.budget; journal = i.journal.items; out = i.out.items; is_broken = i.is_broken }) c.args.strand c.args.stream ≡ Some some.0 = subst (λ (z : Machine). licence_of z c.args.strand c.args.stream ≡ Some some.0) (sym v) some.1 in
    let may : licence_of c.args.self.now c.args.strand c.args.stream ≡ Some some.0 = some.1 in
    let full : length i.journal.items ≡ i.budget = (let w = c.self.invariant.0.within in search (rules, w)) in
    (whole, ap is_some may, subst (λ (z : Machine). length z.journal ≡ z.budget) v full, refl)

pub returns-then-size-capacity-clause-turned : goal.returns-then-size-capacity-clause-turned
returns-then-size-capacity-clause-turned g c =
    let i = c.self.inside in
    let v : ◌≡◌ {A = Machine} (record { net = i.floor.net; budget = i.budget; journal = i.journal.items; out = i.out.items; is_broken = i.is_broken }) c.args.self.now = c.self.view_is in
    let whole : c.args.self.now.is_broken ≡ false = c.requires.whole in
    let some = c.requires.may in
    let here : licence_of (record { net = i.floor.net; budget = i.budget; journal = i.journal.items; out = i.out.items; is_broken = i.is_broken }) c.args.strand c.args.stream ≡ Some some.0 = subst (λ (z : Machine). licence_of z c.args.strand c.args.stream ≡ Some some.0) (sym v) some.1 in
    let may : licence_of c.args.self.now c.args.strand c.args.stream ≡ Some some.0 = some.1 in
    let space : length i.journal.items < i.budget = (let l = c.len.ensures in let f = c.if-len-self.false in search (rules, l, f)) in
    let size = c.size_of_look-size.ensures c.args.stream some.0 may some.2 in
    let room : vec_capacity c.args.room.now < c.size_of_look-size.result = (let l = c.capacity.ensures in let f = c.if-size-capacity.true in search (rules, l, f)) in
    let look = look_of (looks_at c.args.self.now.net c.args.strand) some.0 c.size_of_look-size.result (vec_capacity c.args.room.now) size room in
    (whole, look.0, (look.1.0, look.1.1, may ∙ ap Some look.1.2, look.1.3), subst (λ (z : Machine). length z.journal < z.budget) v space, room, refl)

pub go_out-job-requires-clause-may : goal.go_out-job-requires-clause-may
go_out-job-requires-clause-may g c =
    let i = c.self.inside in
    let v : ◌≡◌ {A = Machine} (record { net = i.floor.net; budget = i.budget; journal = i.journal.items; out = i.out.items; is_broken = i.is_broken }) c.args.self.now = c.self.view_is in
    let some = c.requires.may in
    let here : licence_of (record { net = i.floor.net; budget = i.budget; journal = i.journal.items; out = i.out.items; is_broken = i.is_broken }) c.args.strand c.args.stream ≡ Some some.0 = subst (λ (z : Machine). licence_of z c.args.strand c.args.stream ≡ Some some.0) (sym v) some.1 in
    let may : licence_of c.args.self.now c.args.strand c.args.stream ≡ Some some.0 = some.1 in
    (some.0, may, some.2)

pub fill-requires : goal.fill-requires
fill-requires g c =
    let i = c.self.inside in
    let v : ◌≡◌ {A = Machine} (record { net = i.floor.net; budget = i.budget; journal = i.journal.items; out = i.out.items; is_broken = i.is_broken }) c.args.self.now = c.self.view_is in
    let some = c.requires.may in
    let here : licence_of (record { net = i.floor.net; budget = i.budget; journal = i.journal.items; out = i.out.items; is_broken = i.is_broken }) c.args.strand c.args.stream ≡ Some some.0 = subst (λ (z : Machine). licence_of z c.args.strand c.args.stream ≡ Some some.0) (sym v) some.1 in
    let may : licence_of c.args.self.now c.args.strand c.args.stream ≡ Some some.0 = some.1 in
    let space : length i.journal.items < i.budget = (let l = c.len.ensures in let f = c.if-len-self.false in search (rules, l, f)) in
    let size = c.size_of_look-size.ensures c.args.stream some.0 may some.2 in
    let after : past (state_of c.go_out-job.new.self) c.args.strand ≡ some.0 ∷ past (play i.floor.net i.journal.items) c.args.strand =
    ap (λ (z : Machine). past (state_of z) c.args.strand) c.go_out-job.ensures.after
    ∙ ap (λ (z : Machine). past (state_of (turned z (record { strand = c.args.strand; stream = c.args.stream }))) c.args.strand) (sym v)
    ∙ turned_past g.S.Stage.stands i.floor.net i.budget i.journal.items i.out.items i.actors.items i.floor.desk i.floor.pool c.self.invariant.0 c.args.strand c.args.stream some.0 here in
    let nets : c.go_out-job.new.self.net ≡ c.args.self.now.net = ap (λ (z : Machine). z.net) c.go_out-job.ensures.after in
    let bytes : c.bytes_seen.result.now ≡ bytes_with (looks_at c.args.self.now.net c.args.strand) some.0 =
    c.bytes_seen.ensures some.0 (past (play i.floor.net i.journal.items) c.args.strand) after (goes_on g.S.Stage.stands i.floor.net i.budget i.journal.items i.out.items i.actors.items i.floor.desk i.floor.pool c.self.invariant.0 c.args.strand c.args.stream some.0 here) some.2
    ∙ ap (λ n. bytes_with (looks_at n c.args.strand) some.0) nets in
    let room : c.size_of_look-size.result ≤ vec_capacity c.args.room.now = (let l = c.capacity.ensures in let f = c.if-size-capacity.false in search (rules, l, f)) in
    let long : length c.bytes_seen.result.now ≡ c.size_of_look-size.result = ap length bytes ∙ sym size in
    omega (arith, room, long)

pub returns-clause-turned : goal.returns-clause-turned
returns-clause-turned g c =
    let i = c.self.inside in
    let v : ◌≡◌ {A = Machine} (record { net = i.floor.net; budget = i.budget; journal = i.journal.items; out = i.out.items; is_broken = i.is_broken }) c.args.self.now = c.self.view_is in
    let whole : c.args.self.now.is_broken ≡ false = c.requires.whole in
    let some = c.requires.may in
    let here : licence_of (record { net = i.floor.net; budget = i.budget; journal = i.journal.items; out = i.out.items; is_broken = i.is_broken }) c.args.strand c.args.stream ≡ Some some.0 = subst (λ (z : Machine). licence_of z c.args.strand c.args.stream ≡ Some some.0) (sym v) some.1 in
    let may : licence_of c.args.self.now c.args.strand c.args.stream ≡ Some some.0 = some.1 in
    let space : length i.journal.items < i.budget = (let l = c.len.ensures in let f = c.if-len-self.false in search (rules, l, f)) in
    let size = c.size_of_look-size.ensures c.args.stream some.0 may some.2 in
    let after : past (state_of c.go_out-job.new.self) c.args.strand ≡ some.0 ∷ past (play i.floor.net i.journal.items) c.args.strand =
    ap (λ (z : Machine). past (state_of z) c.args.strand) c.go_out-job.ensures.after
    ∙ ap (λ (z : Machine). past (state_of (turned z (record { strand = c.args.strand; stream = c.args.stream }))) c.args.strand) (sym v)
    ∙ turned_past g.S.Stage.stands i.floor.net i.budget i.journal.items i.out.items i.actors.items i.floor.desk i.floor.pool c.self.invariant.0 c.args.strand c.args.stream some.0 here in
    let nets : c.go_out-job.new.self.net ≡ c.args.self.now.net = ap (λ (z : Machine). z.net) c.go_out-job.ensures.after in
    let bytes : c.bytes_seen.result.now ≡ bytes_with (looks_at c.args.self.now.net c.args.strand) some.0 =
    c.bytes_seen.ensures some.0 (past (play i.floor.net i.journal.items) c.args.strand) after (goes_on g.S.Stage.stands i.floor.net i.budget i.journal.items i.out.items i.actors.items i.floor.desk i.floor.pool c.self.invariant.0 c.args.strand c.args.stream some.0 here) some.2
    ∙ ap (λ n. bytes_with (looks_at n c.args.strand) some.0) nets in
    let fits : c.size_of_look-size.result ≤ vec_capacity c.args.room.now = (let l = c.capacity.ensures in let f = c.if-size-capacity.false in search (rules, l, f)) in
    let long : length c.fill.new.room.items ≡ c.size_of_look-size.result = ap length (c.fill.ensures.items ∙ bytes) ∙ sym size in
    let within : length c.fill.new.room.items ≤ vec_capacity c.args.room.now = omega (arith, fits, long) in
    (whole, subst (λ (z : Machine). length z.journal < z.budget) v space, c.go_out-job.ensures.after, c.go_out-job.ensures.strand, within, c.go_out-job.ensures.job, (some.0, may, c.fill.ensures.items ∙ bytes))

pub returns-clause-lawful : goal.returns-clause-lawful
returns-clause-lawful g c =
    let i = c.self.inside in
    let v : ◌≡◌ {A = Machine} (record { net = i.floor.net; budget = i.budget; journal = i.journal.items; out = i.out.items; is_broken = i.is_broken }) c.args.self.now = c.self.view_is in
    let some = c.requires.may in
    let here : licence_of (record { net = i.floor.net; budget = i.budget; journal = i.journal.items; out = i.out.items; is_broken = i.is_broken }) c.args.strand c.args.stream ≡ Some some.0 = subst (λ (z : Machine). licence_of z c.args.strand c.args.stream ≡ Some some.0) (sym v) some.1 in
    let may : licence_of c.args.self.now c.args.strand c.args.stream ≡ Some some.0 = some.1 in
    let space : length i.journal.items < i.budget = (let l = c.len.ensures in let f = c.if-len-self.false in search (rules, l, f)) in
    let size = c.size_of_look-size.ensures c.args.stream some.0 may some.2 in
    subst IsLawful (sym c.go_out-job.ensures.after) (subst (λ (z : Machine). IsLawful (turned z (record { strand = c.args.strand; stream = c.args.stream }))) v (lawful_turned g.S.Stage.stands i.floor.net i.budget i.journal.items i.out.items i.actors.items i.floor.desk i.floor.pool c.self.invariant.0 c.args.strand c.args.stream some.0 here space i.is_broken))
