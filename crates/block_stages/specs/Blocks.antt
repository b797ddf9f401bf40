-- What the lists of Blocks stand for.
use Rattle.std.specs.Prelude.{◌≡◌, ◌-◌, ℕ, Bool, true, false, if◌then◌else◌, ◌||◌, List, [], ◌∷◌, ◌++◌, length, map, take, drop, pos}
use Rattle.std.specs.List.{concat}
use Rattle.std.specs.declared.option.Option.{Option}
use Rattle.std.specs.declared.option.Option.TheVariants.{Some}
use Rattle.pipe_model.specs.declared.kind.Image.{Image}
use Rattle.pipe_model.specs.BlockRows.{image_of, is_too_long}
use Rattle.pipe_model.specs.Counts.{all_on}
use Rattle.pipe_model.specs.Parts.{without_last, last_part, grown}
use Rattle.pipe_model.specs.Row.{Act}
use Rattle.pipe_model.specs.Row.Act.{Writes}
use Rattle.pipe_model.specs.Shape.{Records, Stream, acts_of, last_pairs, at_hand_of, writes}
use Rattle.block_stages.specs.declared.blocks.Blocks.{Blocks}
use Rattle.block_stages.specs.declared.blocks.Rest.{Rest}
use Rattle.block_stages.specs.declared.blocks.Rest.TheVariants.{Growing, Due, Nothing}
use Rattle.block_stages.specs.declared.cuts.Cuts.{Cuts}
use Rattle.block_stages.specs.Cutting.{parts_by, rest_by, stops_by, code_by, IsSearched}

-- what stands for the records, one after another
abbrev pub text_by : Image → Records → List ℕ
text_by image recs = concat (map (image_of image) recs)

-- the parts of that
abbrev pub parts_so_far : Image → Cuts → Records → Records
parts_so_far image cuts recs = parts_by cuts (text_by image recs)

-- the stream writes each part with the record that completes it
pub record IsStreamOf (image : Image) (cuts : Cuts) (t : Stream) : Type 0 where
  pub before_is : t.before ≡ []
  pub outs_are : (recs : Records) → acts_of t.outs recs ≡ writes (all_on 0 (grown (λ so_far. without_last (parts_so_far image cuts so_far)) recs))
  pub last_is : (recs : Records) → last_pairs t.last recs ≡ all_on 0 (rest_by cuts (last_part (parts_so_far image cuts recs)))
  pub stops_is : (recs : Records) → t.stops recs ≡ (is_too_long image (at_hand_of recs) || stops_by cuts (last_part (parts_so_far image cuts recs)))
  pub halts_is : (recs : Records) → t.halts recs ≡ false
  pub code_is : (recs : Records) → t.code recs ≡ (if is_too_long image (at_hand_of recs) then pos 8 else code_by cuts (last_part (parts_so_far image cuts recs)))

-- what is still to be given, and what isn't complete
abbrev pub pending : Blocks → List ℕ
pending x = drop x.at x.text.items

-- some parts of all were given, the others are those of what is pending
abbrev pub ArePending : Cuts → List ℕ → List ℕ → List Act → Type 0
ArePending cuts all text acts = (given : Records) × (parts_by cuts all ≡ given ++ parts_by cuts text) × (acts ≡ writes (all_on 0 (without_last (parts_by cuts text))))

-- the end is told of what is pending as of all
pub record TellsEnd (cuts : Cuts) (all text : List ℕ) : Type 0 where
  pub stops_same : stops_by cuts (last_part (parts_by cuts text)) ≡ stops_by cuts (last_part (parts_by cuts all))
  pub code_same : code_by cuts (last_part (parts_by cuts text)) ≡ code_by cuts (last_part (parts_by cuts all))

-- the act that is left behind the end of input
abbrev pub rest_acts : Rest → List ℕ → List Act
rest_acts Due text = Writes 0 text ∷ []
rest_acts _ text = []

abbrev pub is_over : Rest → Bool
is_over Growing = false
is_over _ = true

abbrev pub IsHolding : Bool → Blocks → List ℕ → List Act → Type 0
IsHolding false x all acts = ArePending x.cuts all (pending x) acts × IsSearched x.cuts x.searched (pending x)
IsHolding true x all acts = TellsEnd x.cuts all (pending x) × (acts ≡ rest_acts x.rest (pending x))

abbrev pub BlocksStand : Blocks → Bool → Stream → Records → List Act → Type 0
BlocksStand x over t recs acts =
    IsStreamOf x.image x.cuts t × (x.is_too_long ≡ is_too_long x.image (at_hand_of recs)) × (is_over x.rest ≡ over) × IsHolding over x (text_by x.image recs) acts

-- they look at records
abbrev pub blocks_look : Blocks → Bool
blocks_look x = true

-- the record that was given last
abbrev pub block_given : Blocks → Option (List ℕ)
block_given x = Some (take x.size (drop x.from x.text.items))

-- how many groups are left at most
abbrev pub left_by : Rest → ℕ → ℕ
left_by Growing n = n
left_by Due n = 1
left_by Nothing n = 0

abbrev pub blocks_left : Blocks → ℕ
blocks_left x = left_by x.rest (length x.text.items - x.at)
