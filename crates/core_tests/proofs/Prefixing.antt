-- The net of headings before lines is well formed.
use Rattle.std.proofs.Common.{◌<◌, refl, arith}
use Rattle.pipe_model.specs.WellFormed.{IsWellFormed}
use Rattle.confluence_laws.specs.Examples.{prefixing}
use Rattle.confluence_laws.proofs.Formed.{AllAt, IsLink, IsLone, joined_link, lone, lone_formed}

inputs : AllAt (λ j link. link.input < 2) prefixing.links
inputs = (omega arith, (omega arith, (omega arith, (omega arith, tt))))

outputs : AllAt (λ j link. link.output < 2) prefixing.links
outputs = (omega arith, (omega arith, (omega arith, (omega arith, tt))))

each_lone : AllAt (λ s p. IsLone prefixing s p) prefixing.strands
each_lone = (lone prefixing 0 _ 1 inputs outputs (omega arith) (omega arith) refl refl refl refl refl refl refl refl (omega arith) (omega arith) refl refl refl refl, (lone prefixing 1 _ 2 inputs outputs (omega arith) (omega arith) refl refl refl refl refl refl refl refl (omega arith) (omega arith) refl refl refl refl, (lone prefixing 2 _ 2 inputs outputs (omega arith) (omega arith) refl refl refl refl refl refl refl refl (omega arith) (omega arith) refl refl refl refl, (lone prefixing 3 _ 1 inputs outputs (omega arith) (omega arith) refl refl refl refl refl refl refl refl (omega arith) (omega arith) refl refl refl refl, tt))))

each_linked : AllAt (λ j link. IsLink prefixing link) prefixing.links
each_linked = (joined_link prefixing _ _ _ refl refl (omega arith) (omega arith) refl, (joined_link prefixing _ _ _ refl refl (omega arith) (omega arith) refl, (joined_link prefixing _ _ _ refl refl (omega arith) (omega arith) refl, (joined_link prefixing _ _ _ refl refl (omega arith) (omega arith) refl, tt))))

pub prefixing_formed : IsWellFormed prefixing
prefixing_formed = lone_formed prefixing each_lone each_linked (omega arith) refl refl
