-- A strand that put a record comes home, and what is known of the next event is what its want tells.
use Rattle.std.proofs.Common.{◌≡◌, refl, sym, ◌∙◌, ap, subst}
use Rattle.pipe_model.specs.declared.step.Out.TheVariants.{Fresh}
use Rattle.pipe_model.specs.declared.step.Want.TheVariants.{Write}
use Rattle.pipe_model.specs.declared.step.Seen.TheVariants.{Put}
use Rattle.pipe_model.specs.WellFormed.{IsWellFormed}
use Rattle.run_desk.specs.Turns.{bare, desk_after_turn, pool_after_turn}
use Rattle.core_machine.specs.Ahead.{HasGoneQuietly}
use Rattle.core_machine.specs.Floor.{IsInUse, StaysEarly}
use Rattle.core_machine.specs.Woken.{HasReturned}
use Rattle.core_machine.proofs.Relays.{come_live, gone_passing, put_on}
use Rattle.core_machine.proofs.floor.Floor.put.Goals.{in-Write+then-k-o+in_default-out, in-Write+else-k-o, in_default}
use Rattle.core_machine.proofs.floor.Floor.put.Goals as goal

pub write_on-requires-clause-early : goal.write_on-requires-clause-early
write_on-requires-clause-early c =
    let s = c.args.strand in
    let told = Put c.args.o in
    let now = c.args.self.now in
    let is : c.args.want.now ≡ Write c.args.o (Fresh c.in-Fresh.rec) = c.in-Write.is ∙ ap (λ k. Write k c.in-Write.out) c.if-k-o.true ∙ ap (Write c.args.o) c.in-Fresh.is in
    subst (StaysEarly (desk_after_turn now.desk s told) (pool_after_turn now.desk now.pool s told) s) is c.requires.early

pub come_home-requires-clause-early : goal.come_home-requires-clause-early
come_home-requires-clause-early c =
    let s = c.args.strand in
    let told = Put c.args.o in
    let now = c.args.self.now in
    let same : c.match-want.want ≡ c.args.want.now = elim c.match-want.branch [
      | in-Write+then-k-o+in_default-out w ↦ w.want-is ∙ sym w.in-Write.is
      | in-Write+else-k-o w ↦ w.want-is ∙ sym w.in-Write.is
      | in_default w ↦ w.want-is
    ] in
    λ going. subst (λ d. StaysEarly d c.make.new.self.pool s c.match-want.want) (sym c.make.ensures.desk)
    (subst (λ p. StaysEarly (desk_after_turn now.desk s told) p s c.match-want.want) (sym c.make.ensures.pool)
    (subst (StaysEarly (desk_after_turn now.desk s told) (pool_after_turn now.desk now.pool s told) s) (sym same) c.requires.early))

pub ahead-requires-clause-used : goal.ahead-requires-clause-used
ahead-requires-clause-used c =
    let s = c.args.strand in
    let told = Put c.args.o in
    let now = c.args.self.now in
    let asked = c.args.want.now in
    let back = c.come_home.new.self in
    let same : c.match-want.want ≡ asked = elim c.match-want.branch [
      | in-Write+then-k-o+in_default-out w ↦ w.want-is ∙ sym w.in-Write.is
      | in-Write+else-k-o w ↦ w.want-is ∙ sym w.in-Write.is
      | in_default w ↦ w.want-is
    ] in
    let net : back.net ≡ now.net = c.come_home.ensures.net ∙ c.make.ensures.net in
    let returned : HasReturned (desk_after_turn now.desk s told) (pool_after_turn now.desk now.pool s told) s asked back.desk back.pool =
    subst (λ p. HasReturned (desk_after_turn now.desk s told) p s asked back.desk back.pool) c.make.ensures.pool
    (subst (λ d. HasReturned d c.make.new.self.pool s asked back.desk back.pool) c.make.ensures.desk
    (subst (λ w. HasReturned c.make.new.self.desk c.make.new.self.pool s w back.desk back.pool) same c.in_ok-come_home.ensures.home)) in
    let come = come_live (desk_after_turn now.desk s told) (pool_after_turn now.desk now.pool s told) s asked back.desk back.pool returned c.requires.live in
    subst (λ n. IsInUse n back.desk) (sym net) (c.requires.used_home back.desk back.pool come)

pub returns-clause-ahead : goal.returns-clause-ahead
returns-clause-ahead c =
    let s = c.args.strand in
    let told = Put c.args.o in
    let now = c.args.self.now in
    let asked = c.args.want.now in
    let back = c.come_home.new.self in
    let same : c.match-want.want ≡ asked = elim c.match-want.branch [
      | in-Write+then-k-o+in_default-out w ↦ w.want-is ∙ sym w.in-Write.is
      | in-Write+else-k-o w ↦ w.want-is ∙ sym w.in-Write.is
      | in_default w ↦ w.want-is
    ] in
    let net : back.net ≡ now.net = c.come_home.ensures.net ∙ c.make.ensures.net in
    let returned : HasReturned (desk_after_turn now.desk s told) (pool_after_turn now.desk now.pool s told) s asked back.desk back.pool =
    subst (λ p. HasReturned (desk_after_turn now.desk s told) p s asked back.desk back.pool) c.make.ensures.pool
    (subst (λ d. HasReturned d c.make.new.self.pool s asked back.desk back.pool) c.make.ensures.desk
    (subst (λ w. HasReturned c.make.new.self.desk c.make.new.self.pool s w back.desk back.pool) same c.in_ok-come_home.ensures.home)) in
    let come = come_live (desk_after_turn now.desk s told) (pool_after_turn now.desk now.pool s told) s asked back.desk back.pool returned c.requires.live in
    let formed = subst IsWellFormed c.make.ensures.net c.make.ensures.formed in
    let its = c.requires.rendezvous in
    let told_on = put_on now.net now.desk s c.args.o c.args.link its.0 c.requires.door its.1 its.2 in
    let gone = gone_passing now.net now.desk formed now.pool s told asked c.requires.can refl told_on c.requires.used
    c.requires.early back.desk back.pool come c.requires.least.0 c.requires.least.1 in
    c.ahead.ensures now.desk now.pool c.requires.least.0 asked (subst (λ n. HasGoneQuietly n now.desk now.pool s c.requires.least.0 told asked back.desk back.pool)
    (sym net) gone) (subst (λ w. c.come_home.new.want ≡ bare w) same (c.come_home.ensures.bare refl))
