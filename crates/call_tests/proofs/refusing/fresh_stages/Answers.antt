use Rattle.std.proofs.Common.{◌≡◌, ◌∙◌, List, Some, length, map, slice_get, option_map, sym, ap, subst}
use Rattle.std.proofs.lemmas.List.{length-map}
use Rattle.std.proofs.lemmas.Option.{slice_get-map}
use Rattle.pipe_model.specs.declared.net.Strand.{Strand}
use Rattle.core_machine.specs.Start.{AreFresh}
use Rattle.stage_table.specs.declared.built_in.BuiltIn.{BuiltIn}
use Rattle.stage_table.specs.BuiltIn.{BuiltInStands}
use Rattle.stage_table.proofs.FewPlaces.{few_places}
use Rattle.call_tests.specs.declared.refusing.Refusing.{Refusing}
use Rattle.call_tests.proofs.refusing.fresh_stages.Goals as goal

-- stages that wrap fresh ones are fresh
fresh_wrapped : (strands : List Strand) (xs : List Refusing) (ys : List BuiltIn) → map (λ (x : Refusing). x.stage) xs ≡ ys → AreFresh BuiltInStands strands ys → AreFresh (λ (x : Refusing) s h. BuiltInStands x.stage s h) strands xs
fresh_wrapped strands xs ys is fresh = record {
  count = sym (length-map xs (λ (x : Refusing). x.stage)) ∙ ap length is ∙ fresh.count;
  each = λ s p x at here. fresh.each s p x.stage at (subst (λ l. slice_get l s ≡ Some x.stage) is (slice_get-map (λ (x : Refusing). x.stage) xs s ∙ ap (option_map (λ (x : Refusing). x.stage)) here));
}

pub make_all-requires : goal.make_all-requires
make_all-requires c = few_places c.args.net.now c.requires

pub returns : goal.returns
returns c =
    let made = c.in_ok-made.ensures in
    fresh_wrapped c.args.net.now.strands c.in_ok-stages.stages.items c.in_ok-made.made.items c.in_ok-stages.ensures (record { count = made.count; each = made.each })
