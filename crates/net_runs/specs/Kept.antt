-- What the stages of a net keep.
use Rattle.pipe_model.specs.declared.kind.Kind.{Kind}
use Rattle.pipe_model.specs.Form.{keeping_by}
use Rattle.pipe_model.specs.Shape.{Keeping}
use Rattle.pipe_model.specs.Table.{line_of}

-- where what a stage keeps goes
abbrev pub keeping_of : Kind → Keeping
keeping_of kind = keeping_by (line_of kind).shape
