-- The net of the sample's specification, which is settled and plain.
use Rattle.std.proofs.Common.{◌≡◌, ℕ, true, false, List, [], ◌∷◌, codes, refl, ap, inl, inr, Some, arith}
use Rattle.pipe_model.specs.declared.kind.Kind.{Kind}
use Rattle.pipe_model.specs.declared.kind.Kind.TheVariants.{Change, ConsoleIn, ConsoleOut, FanInAny, Locate}
use Rattle.pipe_model.specs.declared.kind.Times.TheVariants.{All}
use Rattle.pipe_model.specs.declared.net.Net.{Net}
use Rattle.pipe_model.specs.declared.net.Strand.{Strand}
use Rattle.pipe_model.specs.Nets.{net_from, rendezvous, strand}
use Rattle.pipe_model.specs.Plain.{IsPlain}
use Rattle.pipe_model.specs.Straight.{all_columns}
use Rattle.confluence_laws.proofs.Acyclic.{plain_if}
use Rattle.argument_parts.specs.Parts.{IsAtEnd, IsNext, IsNot}
use Rattle.argument_parts.specs.declared.part.Part.TheVariants as Asked
use Rattle.argument_parts.specs.declared.part.Value.TheVariants as Read
use Rattle.argument_parts.proofs.DelimitedParts.{delimited_comes}
use Rattle.argument_parts.proofs.StringParts.{no_any_string_of_word}
use Rattle.argument_parts.proofs.WordFronts.{range_other}
use Rattle.stage_syntax.specs.DeviceForms.{console}
use Rattle.stage_syntax.specs.EditingForms.{change}
use Rattle.stage_syntax.specs.Forms.{no_arguments}
use Rattle.stage_syntax.specs.Rows.Makes.{Ended, GoesOn}
use Rattle.stage_syntax.specs.SelectionForms.{locate}
use Rattle.net_graph.specs.Fed.{with_input}
use Rattle.net_graph.specs.Faults.{IsGraph}
use Rattle.net_graph.specs.Line.{first_strand, last_strand}
use Rattle.call_meaning.specs.Meaning.{IsNetOf}
use Rattle.call_meaning.specs.Sample.{sample_spec}
use Rattle.call_meaning.proofs.OneTexts.{one_net}
use Rattle.call_meaning.proofs.SampleTexts.{not_there, sample_pieces, sample_reads}

-- what its LOCATE and its CHANGE look for, and what is put in its place
abbrev seven : List ℕ
seven = codes "7"

abbrev sevens : List ℕ
sevens = codes "77"

-- its strands between the two CONSOLEs
abbrev pub selector : Strand
selector = strand 1 (Locate all_columns (Some seven)) (true ∷ []) (true ∷ (true ∷ []))

abbrev pub changer : Strand
changer = strand 2 (Change all_columns seven sevens All) (true ∷ []) (true ∷ [])

abbrev pub joiner : Strand
joiner = strand 3 FanInAny (true ∷ (true ∷ [])) (true ∷ [])

-- the net of the sample that reads these bytes
abbrev pub sample_net : List ℕ → Net
sample_net bytes = net_from
    (first_strand bytes ∷ selector ∷ changer ∷ joiner ∷ last_strand 4 ∷ [])
    (rendezvous 0 0 1 0 ∷ rendezvous 1 0 2 0 ∷ rendezvous 2 0 3 0 ∷ rendezvous 3 0 4 0 ∷ rendezvous 1 1 3 1 ∷ [])

-- it is plain
pub sample_plain : (bytes : List ℕ) → IsPlain (sample_net bytes)
sample_plain bytes = plain_if (sample_net bytes) refl

-- the kinds of its stages
abbrev kinds : List Kind
kinds = ConsoleIn [] ∷ Locate all_columns (Some seven) ∷ Change all_columns seven sevens All ∷ FanInAny ∷ ConsoleOut ∷ []

nothing_left : IsAtEnd []
nothing_left = record { blanks = 0; spells = refl; other = λ same. omega (arith, same) }

-- a string between slashes
locate_next : IsNext (Asked.Range ∷ (Asked.String ∷ [])) (codes " /7/") (Read.String seven) []
locate_next = record {
  front = codes "/7/";
  unblanked = record { blanks = 1; spells = refl; other = λ same. omega (arith, same) };
  some = omega arith;
  part = delimited_comes (codes "/7/") seven [] (omega arith) (record { delimiter = 47; chosen = refl; whole = not_there 47 seven refl; spells = refl });
}

-- two strings between slashes, which are no range of columns
abbrev strings : List ℕ
strings = codes "/7/77/"

no_columns : IsNot Asked.Columns strings
no_columns value rest columns =
    no_any_string_of_word strings (range_other strings columns.0 rest (inl columns.2)) seven (codes "77/")
    (inl (record { delimiter = 47; chosen = refl; whole = not_there 47 seven refl; spells = refl }))

change_next : IsNext (Asked.Columns ∷ (Asked.Strings ∷ [])) (32 ∷ strings) (Read.Strings seven sevens) []
change_next = record {
  front = strings;
  unblanked = record { blanks = 1; spells = refl; other = λ same. omega (arith, same) };
  some = omega arith;
  part = inr (
    no_columns,
    inl (
      seven,
      sevens,
      refl,
      inl (record {
        delimiter = 47;
        chosen = refl;
        first_whole = not_there 47 seven refl;
        second_whole = not_there 47 sevens refl;
        spells = refl;
      }),
    ),
  );
}

-- the pieces make the net
sample_graph : IsGraph sample_pieces (sample_net [])
sample_graph = record {
  kinds = kinds;
  read = (
    record { arguments = console true; named = refl; reads = Ended [] [] [] _ nothing_left refl },
    (
      record { arguments = locate; named = refl; reads = GoesOn [] [] _ (Read.String seven) [] _ locate_next refl (Ended (Read.String seven ∷ []) _ [] _ nothing_left refl) },
      (
        record { arguments = change; named = refl; reads = GoesOn [] [] _ (Read.Strings seven sevens) [] _ change_next refl (Ended (Read.Strings seven sevens ∷ []) _ [] _ nothing_left refl) },
        (record { arguments = no_arguments FanInAny; named = refl; reads = Ended [] [] [] _ nothing_left refl }, (record { arguments = console false; named = refl; reads = Ended [] [] [] _ nothing_left refl }, tt)),
      ),
    ),
  );
  good = refl;
  net_is = refl;
}

pub sample_has_net : IsNetOf sample_spec (sample_net [])
sample_has_net = record { pipelines = sample_pieces; reads = sample_reads; graph = sample_graph }

-- which is fed the input
pub sample_fed : (input : List ℕ) (net : Net) → IsNetOf sample_spec net → with_input input net ≡ sample_net input
sample_fed input net is = ap (with_input input) (one_net sample_spec net (sample_net []) is sample_has_net)
