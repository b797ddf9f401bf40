-- The rows of the stage table as streams of images that are cut.
use Rattle.std.proofs.Common.{◌≡◌, ℕ, Bool, true, false, ◌||◌, List, [], ◌∷◌, length, map, drop, refl, sym, ◌∙◌, ap, subst, Option, None}
use Rattle.std.specs.List.{concat}
use Rattle.pipe_model.specs.declared.kind.Image.{Image}
use Rattle.pipe_model.specs.declared.kind.Image.TheVariants as Images
use Rattle.pipe_model.specs.declared.kind.Cutting.{Cutting}
use Rattle.pipe_model.specs.declared.kind.Cutting.TheVariants as Cuttings
use Rattle.pipe_model.specs.BlockRows.{image_of, some_rest, filled, fblock, block, deblock}
use Rattle.pipe_model.specs.Counts.{all_on, earlier}
use Rattle.pipe_model.specs.Parts.{without_last, last_part, grown}
use Rattle.pipe_model.specs.Shape.{Records, writes}
use Rattle.block_stages.specs.declared.cuts.Cuts.{Cuts}
use Rattle.block_stages.specs.declared.cuts.Cuts.TheVariants.{Every, At, ByLengths}
use Rattle.block_stages.specs.Blocks.{IsStreamOf, text_by, parts_so_far}
use Rattle.block_stages.specs.Cutting.{parts_by, rest_by, stops_by, code_by, AreCutsOf}

-- a record that stands for itself
text_same : (recs : Records) → text_by Images.Fixed recs ≡ concat recs
text_same recs = ap concat (map_same recs)
  where
    map_same : (recs : Records) → map (image_of Images.Fixed) recs ≡ recs
    map_same [] = refl
    map_same (rec ∷ recs) = ap (λ rest. rec ∷ rest) (map_same recs)

filled_none : (size : ℕ) (rest : List ℕ) → some_rest rest ≡ map (filled size None) (some_rest rest)
filled_none size [] = refl
filled_none size (b ∷ rest) = refl

module _ (cuts : Cuts) where
  abbrev parts : Records → Records
  parts recs = parts_by cuts (concat recs)

  parts_same : (recs : Records) → parts recs ≡ parts_so_far Images.Fixed cuts recs
  parts_same recs = ap (parts_by cuts) (sym (text_same recs))

  outs_same : (recs : Records) → writes (all_on 0 (grown (λ so_far. without_last (parts so_far)) recs)) ≡ writes (all_on 0 (grown (λ so_far. without_last (parts_so_far Images.Fixed cuts so_far)) recs))
  outs_same recs =
      ap (λ ps. writes (all_on 0 (drop (length (without_last ps)) (without_last (parts recs))))) (parts_same (earlier recs))
      ∙ ap (λ ps. writes (all_on 0 (drop (length (without_last (parts_so_far Images.Fixed cuts (earlier recs)))) (without_last ps)))) (parts_same recs)

-- FBLOCK
pub fblock_is : (size : ℕ) (fill : Option ℕ) → IsStreamOf Images.Fixed (Every size fill) (fblock size fill)
fblock_is size fill = record {
  before_is = refl;
  outs_are = outs_same (Every size fill);
  last_is = λ recs. ap (λ ps. all_on 0 (rest_by (Every size fill) (last_part ps))) (parts_same (Every size fill) recs);
  stops_is = λ recs. refl;
  halts_is = λ recs. refl;
  code_is = λ recs. refl;
}

-- BLOCK
pub block_is : (size : ℕ) (image : Image) → IsStreamOf image (Every size None) (block size image)
block_is size image = record {
  before_is = refl;
  outs_are = λ recs. refl;
  last_is = λ recs. ap (all_on 0) (filled_none size (last_part (parts_so_far image (Every size None) recs)));
  stops_is = λ recs. sym (or_false _);
  halts_is = λ recs. refl;
  code_is = λ recs. refl;
}
  where
    or_false : (b : Bool) → (b || false) ≡ b
    or_false true = refl
    or_false false = refl

-- DEBLOCK

deblock_at : (string : List ℕ) → IsStreamOf Images.Fixed (At string) (deblock (Cuttings.Text string))
deblock_at string = record {
  before_is = refl;
  outs_are = outs_same (At string);
  last_is = λ recs. ap (λ ps. all_on 0 (some_rest (last_part ps))) (parts_same (At string) recs);
  stops_is = λ recs. refl;
  halts_is = λ recs. refl;
  code_is = λ recs. refl;
}

pub deblock_is : (cutting : Cutting) (cuts : Cuts) → AreCutsOf cutting cuts → IsStreamOf Images.Fixed cuts (deblock cutting)
deblock_is (Cuttings.Fixed size) cuts are = subst (λ cuts. IsStreamOf Images.Fixed cuts (deblock (Cuttings.Fixed size))) (sym are) (record {
  before_is = refl;
  outs_are = outs_same (Every size None);
  last_is = λ recs. ap (all_on 0) (filled_none size (last_part (parts (Every size None) recs))) ∙ ap (λ ps. all_on 0 (rest_by (Every size None) (last_part ps))) (parts_same (Every size None) recs);
  stops_is = λ recs. refl;
  halts_is = λ recs. refl;
  code_is = λ recs. refl;
})
deblock_is Cuttings.Linend cuts are = subst (λ cuts. IsStreamOf Images.Fixed cuts (deblock Cuttings.Linend)) (sym are) (record {
  before_is = refl;
  outs_are = outs_same (At (10 ∷ []));
  last_is = λ recs. ap (λ ps. all_on 0 (some_rest (last_part ps))) (parts_same (At (10 ∷ [])) recs);
  stops_is = λ recs. refl;
  halts_is = λ recs. refl;
  code_is = λ recs. refl;
})
deblock_is (Cuttings.Text string) cuts are = subst (λ cuts. IsStreamOf Images.Fixed cuts (deblock (Cuttings.Text string))) (sym are) (deblock_at string)
deblock_is Cuttings.Sf cuts are = subst (λ cuts. IsStreamOf Images.Fixed cuts (deblock Cuttings.Sf)) (sym are) (record {
  before_is = refl;
  outs_are = outs_same ByLengths;
  last_is = λ recs. refl;
  stops_is = λ recs. ap (λ ps. stops_by ByLengths (last_part ps)) (parts_same ByLengths recs);
  halts_is = λ recs. refl;
  code_is = λ recs. ap (λ ps. code_by ByLengths (last_part ps)) (parts_same ByLengths recs);
})
