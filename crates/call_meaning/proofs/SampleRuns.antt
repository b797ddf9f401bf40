-- Whatever input the net of the sample is fed, it never stalls, and its code is 0.
use Rattle.std.proofs.Common.{◌≡◌, ℕ, zero, suc, true, List, [], ◌∷◌, codes, map, refl, sym, subst, Some, pos}
use Rattle.pipe_model.specs.declared.net.Net.{Net}
use Rattle.pipe_model.specs.declared.net.Strand.{Strand}
use Rattle.pipe_model.specs.declared.step.Entry.{Entry}
use Rattle.pipe_model.specs.Event.{Event}
use Rattle.pipe_model.specs.Event.Event.{Saw, SawEnd}
use Rattle.pipe_model.specs.declared.kind.Times.TheVariants.{All}
use Rattle.pipe_model.specs.EditingRows.{changed, edits}
use Rattle.pipe_model.specs.FanRows.{passed}
use Rattle.pipe_model.specs.Plain.{IsPlain}
use Rattle.pipe_model.specs.Ranges.{locates}
use Rattle.pipe_model.specs.Records.{lines}
use Rattle.pipe_model.specs.SelectionRows.{selects}
use Rattle.pipe_model.specs.Straight.{all_columns}
use Rattle.net_graph.specs.Line.{first_strand, last_strand}
use Rattle.pipe_model.specs.Play.{HasEnded, IsComplete, IsLegal, play}
use Rattle.pipe_model.specs.Reply.{reply}
use Rattle.pipe_model.specs.Row.{Known, Pair}
use Rattle.pipe_model.specs.Shape.Order.{WritesFirst}
use Rattle.pipe_model.specs.Shape.{Order, Records, copied, each_record, first_plan, list_plan, listed, row, sink, source}
use Rattle.pipe_model.specs.State.{Who, nothing_yet, strand_at}
use Rattle.pipe_model.specs.Table.{form}
use Rattle.pipe_model.specs.WellFormed.{IsWellFormed}
use Rattle.confluence_laws.specs.Onward.{is_onward}
use Rattle.confluence_laws.proofs.Onwards.{onward_ends}
use Rattle.confluence_laws.proofs.ZeroCodes.{EndsWithZero, IsZeroGoal, zero_reply}
use Rattle.net_graph.specs.Fed.{with_input}
use Rattle.net_graph.proofs.Feeds.{input_formed}
use Rattle.call_meaning.specs.Meaning.{IsNetOf}
use Rattle.call_meaning.specs.Sample.{sample_spec}
use Rattle.call_meaning.proofs.OneTexts.{net_formed}
use Rattle.call_meaning.proofs.SampleNets.{changer, joiner, sample_fed, sample_net, sample_plain, selector}

-- Rows that end with code 0

source_zero : (pairs : List Pair) → EndsWithZero (source pairs)
source_zero pairs = record { late = refl; plans = λ k. refl }

module _ (order : Order) (outs : Records → List Pair) where
  list_zero : (k : Known) (told : List Event) → IsZeroGoal (list_plan order (each_record outs) k told).goal
  list_zero k [] = tt
  list_zero k (Saw i rec ∷ told) = tt
  list_zero k (SawEnd i ∷ told) = refl
  list_zero k (_ ∷ told) = refl

  listed_zero : EndsWithZero (listed order (each_record outs))
  listed_zero = record { late = refl; plans = λ k. list_zero k k.told }

sink_zero : EndsWithZero sink
sink_zero = record { late = refl; plans = λ k. list_zero WritesFirst copied k k.told }

first_zero : (outs : List Pair → List Pair) → EndsWithZero (row (λ k. first_plan outs k k.told))
first_zero outs = record { late = refl; plans = λ k. by k k.told }
  where
    by : (k : Known) (told : List Event) → IsZeroGoal (first_plan outs k told).goal
    by k [] = tt
    by k (Saw i rec ∷ told) = tt
    by k (_ ∷ told) = refl

-- The strands of the sample's net

abbrev Zero : Strand → Type 0
Zero p = EndsWithZero (form p).row

rows_zero : (input : List ℕ) (s : Who) (p : Strand) → strand_at (sample_net input) nothing_yet s ≡ Some p → Zero p
rows_zero input zero p here = subst Zero (let is : first_strand input ≡ p = cc in is) (source_zero (map (λ rec. (0, rec)) (lines input)))
rows_zero input (suc zero) p here = subst Zero (let is : selector ≡ p = cc in is) (listed_zero WritesFirst (selects (locates all_columns (Some (codes "7")))))
rows_zero input (suc (suc zero)) p here = subst Zero (let is : changer ≡ p = cc in is) (listed_zero WritesFirst (edits (changed all_columns (codes "7") (codes "77") All)))
rows_zero input (suc (suc (suc zero))) p here = subst Zero (let is : joiner ≡ p = cc in is) (first_zero passed)
rows_zero input (suc (suc (suc (suc zero)))) p here = subst Zero (let is : last_strand 4 ≡ p = cc in is) sink_zero
rows_zero input (suc (suc (suc (suc (suc s))))) p here = cc

module _ (input : List ℕ) (net : Net) (is : IsNetOf sample_spec net) where
  abbrev fed : Net
  fed = with_input input net

  pub fed_whole : IsWellFormed fed
  fed_whole = input_formed input net (net_formed sample_spec net is)

  pub fed_plain : IsPlain fed
  fed_plain = subst IsPlain (sym (sample_fed input net is)) (sample_plain input)

  module _ (order : List Entry) (legal : IsLegal fed order) (complete : IsComplete fed order) where
    pub fed_ends : HasEnded fed (play fed order)
    fed_ends = onward_ends fed fed_whole (subst (λ (z : Net). is_onward z ≡ true) (sym (sample_fed input net is)) refl) order legal complete

    pub fed_code : (reply fed (play fed order)).code ≡ pos 0
    fed_code =
        zero_reply fed fed_whole (subst (λ (z : Net). (s : Who) (p : Strand) → strand_at z nothing_yet s ≡ Some p → Zero p) (sym (sample_fed input net is)) (rows_zero input)) order legal fed_ends
