-- A strand that saw a record comes home, and what is known of the next event is what its want tells.
use Rattle.std.proofs.Common.{◌≡◌, refl, sym, ◌∙◌, subst}
use Rattle.pipe_model.specs.declared.step.Seen.TheVariants.{Saw}
use Rattle.pipe_model.specs.WellFormed.{IsWellFormed}
use Rattle.run_desk.specs.Turns.{desk_after_turn, pool_after_turn}
use Rattle.core_machine.specs.Ahead.{HasGoneQuietly}
use Rattle.core_machine.specs.Floor.{IsInUse, StaysEarly}
use Rattle.core_machine.specs.Woken.{HasReturned}
use Rattle.core_machine.proofs.Relays.{come_live, gone_passing}
use Rattle.core_machine.proofs.floor.Floor.see.Goals as goal

pub pass_on-requires-clause-early : goal.pass_on-requires-clause-early
pass_on-requires-clause-early c =
    let s = c.args.strand in
    let told = Saw c.args.i in
    let now = c.args.self.now in
    subst (StaysEarly (desk_after_turn now.desk s told) (pool_after_turn now.desk now.pool s told) s) c.in-Some.ensures c.requires.early

pub come_home-requires-clause-early : goal.come_home-requires-clause-early
come_home-requires-clause-early c =
    let s = c.args.strand in
    let told = Saw c.args.i in
    let now = c.args.self.now in
    λ going. subst (λ d. StaysEarly d c.make.new.self.pool s c.args.want.now) (sym c.make.ensures.desk)
    (subst (λ p. StaysEarly (desk_after_turn now.desk s told) p s c.args.want.now) (sym c.make.ensures.pool) c.requires.early)

pub ahead-requires-clause-used : goal.ahead-requires-clause-used
ahead-requires-clause-used c =
    let s = c.args.strand in
    let told = Saw c.args.i in
    let now = c.args.self.now in
    let asked = c.args.want.now in
    let back = c.come_home.new.self in
    let net : back.net ≡ now.net = c.come_home.ensures.net ∙ c.make.ensures.net in
    let returned : HasReturned (desk_after_turn now.desk s told) (pool_after_turn now.desk now.pool s told) s asked back.desk back.pool =
    subst (λ p. HasReturned (desk_after_turn now.desk s told) p s asked back.desk back.pool) c.make.ensures.pool
    (subst (λ d. HasReturned d c.make.new.self.pool s asked back.desk back.pool) c.make.ensures.desk c.in_ok-come_home.ensures.home) in
    let come = come_live (desk_after_turn now.desk s told) (pool_after_turn now.desk now.pool s told) s asked back.desk back.pool returned c.requires.live in
    subst (λ n. IsInUse n back.desk) (sym net) (c.requires.used_home back.desk back.pool come)

pub returns-clause-ahead : goal.returns-clause-ahead
returns-clause-ahead c =
    let s = c.args.strand in
    let told = Saw c.args.i in
    let now = c.args.self.now in
    let asked = c.args.want.now in
    let back = c.come_home.new.self in
    let net : back.net ≡ now.net = c.come_home.ensures.net ∙ c.make.ensures.net in
    let returned : HasReturned (desk_after_turn now.desk s told) (pool_after_turn now.desk now.pool s told) s asked back.desk back.pool =
    subst (λ p. HasReturned (desk_after_turn now.desk s told) p s asked back.desk back.pool) c.make.ensures.pool
    (subst (λ d. HasReturned d c.make.new.self.pool s asked back.desk back.pool) c.make.ensures.desk c.in_ok-come_home.ensures.home) in
    let come = come_live (desk_after_turn now.desk s told) (pool_after_turn now.desk now.pool s told) s asked back.desk back.pool returned c.requires.live in
    let formed = subst IsWellFormed c.make.ensures.net c.make.ensures.formed in
    let gone = gone_passing now.net now.desk formed now.pool s told asked c.requires.can c.requires.quiet tt c.requires.used
    c.requires.early back.desk back.pool come c.requires.least.0 c.requires.least.1 in
    c.ahead.ensures now.desk now.pool c.requires.least.0 asked (subst (λ n. HasGoneQuietly n now.desk now.pool s c.requires.least.0 told asked back.desk back.pool)
    (sym net) gone) (c.come_home.ensures.bare refl)
