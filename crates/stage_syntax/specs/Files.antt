-- The kinds that are given a file.
use Rattle.std.specs.Prelude.{Bool, true, false}
use Rattle.std.specs.declared.option.Option.TheVariants.{Some}
use Rattle.pipe_model.specs.declared.kind.Kind.{Kind}
use Rattle.pipe_model.specs.declared.kind.Kind.TheVariants.{FileIn}
use Rattle.pipe_model.specs.Table.{Feed}
use Rattle.pipe_model.specs.Table.Feed.{Unfed, Input, OfFile}

-- it is a file that is fed
abbrev pub is_of_file : Feed → Bool
is_of_file Unfed = false
is_of_file Input = false
is_of_file (OfFile name) = true

-- the kind is no `<` that is given its file yet
abbrev pub is_unfiled : Kind → Bool
is_unfiled (FileIn name (Some bytes)) = false
is_unfiled _ = true
