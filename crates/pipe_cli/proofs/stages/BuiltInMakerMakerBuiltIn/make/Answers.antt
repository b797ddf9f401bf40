use Rattle.stage_table.proofs.FewPlaces.{few_places}
use Rattle.pipe_cli.proofs.stages.BuiltInMakerMakerBuiltIn.make.Goals as goal

pub make_all-requires : goal.make_all-requires
make_all-requires c = few_places c.args.net.now c.requires
