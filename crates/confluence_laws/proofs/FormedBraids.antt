-- Small nets of braids in braids are well formed.
use Rattle.std.proofs.Common.{ℕ, ◌<◌, refl, arith}
use Rattle.pipe_model.specs.WellFormed.{IsWellFormed}
use Rattle.confluence_laws.specs.Examples.{nesting, nesting_delayed}
use Rattle.confluence_laws.proofs.Formed.{AllAt, IsLink, IsLone, joined_link, lone, lone_formed}

nesting_inputs : AllAt (λ j link. link.input < 2) nesting.links
nesting_inputs = (omega arith, (omega arith, (omega arith, (omega arith, (omega arith, (omega arith, (omega arith, tt)))))))

nesting_outputs : AllAt (λ j link. link.output < 2) nesting.links
nesting_outputs = (omega arith, (omega arith, (omega arith, (omega arith, (omega arith, (omega arith, (omega arith, tt)))))))

nesting_lone : AllAt (λ s p. IsLone nesting s p) nesting.strands
nesting_lone = (lone nesting 0 _ 1 nesting_inputs nesting_outputs (omega arith) (omega arith) refl refl refl refl refl refl refl refl (omega arith) (omega arith) refl refl refl refl, (lone nesting 1 _ 2 nesting_inputs nesting_outputs (omega arith) (omega arith) refl refl refl refl refl refl refl refl (omega arith) (omega arith) refl refl refl refl, (lone nesting 2 _ 2 nesting_inputs nesting_outputs (omega arith) (omega arith) refl refl refl refl refl refl refl refl (omega arith) (omega arith) refl refl refl refl, (lone nesting 3 _ 2 nesting_inputs nesting_outputs (omega arith) (omega arith) refl refl refl refl refl refl refl refl (omega arith) (omega arith) refl refl refl refl, (lone nesting 4 _ 2 nesting_inputs nesting_outputs (omega arith) (omega arith) refl refl refl refl refl refl refl refl (omega arith) (omega arith) refl refl refl refl, (lone nesting 5 _ 1 nesting_inputs nesting_outputs (omega arith) (omega arith) refl refl refl refl refl refl refl refl (omega arith) (omega arith) refl refl refl refl, tt))))))

nesting_linked : AllAt (λ j link. IsLink nesting link) nesting.links
nesting_linked = (joined_link nesting _ _ _ refl refl (omega arith) (omega arith) refl, (joined_link nesting _ _ _ refl refl (omega arith) (omega arith) refl, (joined_link nesting _ _ _ refl refl (omega arith) (omega arith) refl, (joined_link nesting _ _ _ refl refl (omega arith) (omega arith) refl, (joined_link nesting _ _ _ refl refl (omega arith) (omega arith) refl, (joined_link nesting _ _ _ refl refl (omega arith) (omega arith) refl, (joined_link nesting _ _ _ refl refl (omega arith) (omega arith) refl, tt)))))))

pub nesting_formed : IsWellFormed nesting
nesting_formed = lone_formed nesting nesting_lone nesting_linked (omega arith) refl refl

nesting_delayed_inputs : AllAt (λ j link. link.input < 2) nesting_delayed.links
nesting_delayed_inputs = (omega arith, (omega arith, (omega arith, (omega arith, (omega arith, (omega arith, (omega arith, (omega arith, tt))))))))

nesting_delayed_outputs : AllAt (λ j link. link.output < 2) nesting_delayed.links
nesting_delayed_outputs = (omega arith, (omega arith, (omega arith, (omega arith, (omega arith, (omega arith, (omega arith, (omega arith, tt))))))))

nesting_delayed_lone : AllAt (λ s p. IsLone nesting_delayed s p) nesting_delayed.strands
nesting_delayed_lone = (lone nesting_delayed 0 _ 1 nesting_delayed_inputs nesting_delayed_outputs (omega arith) (omega arith) refl refl refl refl refl refl refl refl (omega arith) (omega arith) refl refl refl refl, (lone nesting_delayed 1 _ 2 nesting_delayed_inputs nesting_delayed_outputs (omega arith) (omega arith) refl refl refl refl refl refl refl refl (omega arith) (omega arith) refl refl refl refl, (lone nesting_delayed 2 _ 2 nesting_delayed_inputs nesting_delayed_outputs (omega arith) (omega arith) refl refl refl refl refl refl refl refl (omega arith) (omega arith) refl refl refl refl, (lone nesting_delayed 3 _ 2 nesting_delayed_inputs nesting_delayed_outputs (omega arith) (omega arith) refl refl refl refl refl refl refl refl (omega arith) (omega arith) refl refl refl refl, (lone nesting_delayed 4 _ 1 nesting_delayed_inputs nesting_delayed_outputs (omega arith) (omega arith) refl refl refl refl refl refl refl refl (omega arith) (omega arith) refl refl refl refl, (lone nesting_delayed 5 _ 2 nesting_delayed_inputs nesting_delayed_outputs (omega arith) (omega arith) refl refl refl refl refl refl refl refl (omega arith) (omega arith) refl refl refl refl, (lone nesting_delayed 6 _ 1 nesting_delayed_inputs nesting_delayed_outputs (omega arith) (omega arith) refl refl refl refl refl refl refl refl (omega arith) (omega arith) refl refl refl refl, tt)))))))

nesting_delayed_linked : AllAt (λ j link. IsLink nesting_delayed link) nesting_delayed.links
nesting_delayed_linked = (joined_link nesting_delayed _ _ _ refl refl (omega arith) (omega arith) refl, (joined_link nesting_delayed _ _ _ refl refl (omega arith) (omega arith) refl, (joined_link nesting_delayed _ _ _ refl refl (omega arith) (omega arith) refl, (joined_link nesting_delayed _ _ _ refl refl (omega arith) (omega arith) refl, (joined_link nesting_delayed _ _ _ refl refl (omega arith) (omega arith) refl, (joined_link nesting_delayed _ _ _ refl refl (omega arith) (omega arith) refl, (joined_link nesting_delayed _ _ _ refl refl (omega arith) (omega arith) refl, (joined_link nesting_delayed _ _ _ refl refl (omega arith) (omega arith) refl, tt))))))))

pub nesting_delayed_formed : IsWellFormed nesting_delayed
nesting_delayed_formed = lone_formed nesting_delayed nesting_delayed_lone nesting_delayed_linked (omega arith) refl refl
