-- The net of stages of given sizes and of joins is well-formed, where the stages and the joins are as a specification can have them.
use Rattle.std.proofs.Common.{◌≡◌, ◌⊎◌, inl, inr, ℕ, suc, ◌+◌, ◌-◌, ◌≤◌, ◌<◌, true, false, ◌&&◌, ◌==◌, List, refl, sym, ◌∙◌, ap, subst, arith, Some, slice_get}
use Rattle.std.specs.Prelude.{sum_by, ◌↔◌}
use Rattle.std.proofs.lemmas.Bool.{eqb-true}
use Rattle.std.proofs.lemmas.List.FromFn.{length-map-range_with_len}
use Rattle.pipe_model.specs.declared.net.Link.{Link}
use Rattle.pipe_model.specs.declared.net.Net.{Net}
use Rattle.pipe_model.specs.declared.net.Strand.{Strand}
use Rattle.pipe_model.specs.Form.Parting.{Queued}
use Rattle.pipe_model.specs.State.{link_out, nothing_yet, strand_at}
use Rattle.pipe_model.specs.Table.{form, line_of}
use Rattle.pipe_model.specs.WellFormed.{IsJoined, IsOfStage, IsQueue, IsWellFormed, TellsPorts, places_of}
use Rattle.pipe_model.proofs.Lists.{finds, found_at}
use Rattle.pipe_model.proofs.Numbers.{test_same}
use Rattle.pipe_model.proofs.Truths.{both}
use Rattle.net_graph.specs.Nets.{StageSize, first_number, inputs_of, is_linked_in, is_linked_out, links_of, net_by, outputs_of, part_in, part_out, parting_of, strand_of, width_of}
use Rattle.net_graph.proofs.FormedEnds.{HasStream, IsEnd, end_at, end_part, in_side, one_end, out_side}
use Rattle.net_graph.proofs.FormedFlags.{flag_is, found_or_not, passes_at}
use Rattle.net_graph.proofs.FormedLists.{true_or_not}
use Rattle.net_graph.proofs.FormedQueues.{IsStageQueue, OfJoin, OfQueue, link_was, lone_queue, queue_at, queue_stands, two_wide}
use Rattle.net_graph.proofs.Parted.{IsPart, begins, part_there, part_was, strands_count}

-- the stage has some streams, and its kind is proper
pub record IsGoodStage (size : StageSize) : Type 0 where
  pub some : 1 ≤ size.streams
  pub few : size.streams ≤ 64
  pub proper : (line_of size.kind).proper ≡ true

-- the join leads from a stream that there is to another
pub record IsGoodJoin (sizes : List StageSize) (join : Link) : Type 0 where
  pub source : HasStream outputs_of sizes join.from join.output
  pub target : HasStream inputs_of sizes join.to join.input

-- there are few strands, all stages and joins are good, and no two joins leave one stream or come to one
pub record AreGood (sizes : List StageSize) (joins : List Link) : Type 0 where
  pub few : sum_by width_of sizes ≤ 65536
  pub good_stage : (stage : ℕ) (size : StageSize) → slice_get sizes stage ≡ Some size → IsGoodStage size
  pub good_join : (j : ℕ) (join : Link) → slice_get joins j ≡ Some join → IsGoodJoin sizes join
  pub lone_out : (j k : ℕ) (a b : Link) → slice_get joins j ≡ Some a → slice_get joins k ≡ Some b → a.from ≡ b.from → a.output ≡ b.output → j ≡ k
  pub lone_in : (j k : ℕ) (a b : Link) → slice_get joins j ≡ Some a → slice_get joins k ≡ Some b → a.to ≡ b.to → a.input ≡ b.input → j ≡ k

-- a stage of two strands has the first and the second
first_of_two : (size : StageSize) → parting_of size ≡ Queued → 0 < width_of size
first_of_two size queued = omega (arith, two_wide size queued)

second_of_two : (size : StageSize) → parting_of size ≡ Queued → 1 < width_of size
second_of_two size queued = omega (arith, two_wide size queued)

module _ (sizes : List StageSize) (joins : List Link) (good : AreGood sizes joins) where
  abbrev links : List Link
  links = links_of sizes joins

  abbrev net : Net
  net = net_by sizes joins

  -- a strand of a stage
  abbrev own : ℕ → StageSize → ℕ → Strand
  own stage size part = strand_of links stage (first_number sizes stage) size part

  own_at : (stage part s : ℕ) (size : StageSize) → slice_get sizes stage ≡ Some size → part < width_of size → first_number sizes stage + part ≡ s → strand_at net nothing_yet s ≡ Some (own stage size part)
  own_at stage part s size = part_there sizes links stage part s size

  -- the ends of a link that is a join's
  module _ (j : ℕ) (link : Link) (of : OfJoin sizes joins j link) where
    good_join : IsGoodJoin sizes of.join
    good_join = good.good_join j of.join of.join_there

    source : IsEnd part_out outputs_of out_side sizes of.join.from of.join.output link.from link.output
    source = end_at part_out outputs_of out_side sizes of.join.from of.join.output link.from link.output good_join.source
        (ap (λ (l : Link). l.from) of.link_is) (ap (λ (l : Link). l.output) of.link_is)

    target : IsEnd part_in inputs_of in_side sizes of.join.to of.join.input link.to link.input
    target = end_at part_in inputs_of in_side sizes of.join.to of.join.input link.to link.input good_join.target
        (ap (λ (l : Link). l.to) of.link_is) (ap (λ (l : Link). l.input) of.link_is)

    -- the strand that it leaves
    abbrev leaves : Strand
    leaves = own of.join.from source.size (part_out (parting_of source.size) of.join.output)

    leaves_at : strand_at net nothing_yet link.from ≡ Some leaves
    leaves_at = own_at of.join.from (part_out (parting_of source.size) of.join.output) link.from source.size source.stage_there source.below source.number_is

    join_joined : IsJoined net link
    join_joined = record {
      producer = leaves;
      consumer = own of.join.to target.size (part_in (parting_of target.size) of.join.input);
      from_strand = leaves_at;
      to_strand = own_at of.join.to (part_in (parting_of target.size) of.join.input) link.to target.size target.stage_there target.below target.number_is;
      output = source.place_there;
      input = target.place_there;
    }

    -- it doesn't leave the first strand of a stage of two, and doesn't come to the second
    not_first : (stage : ℕ) (size : StageSize) → slice_get sizes stage ≡ Some size → parting_of size ≡ Queued → first_number sizes stage ≡ link.from → ⊥
    not_first stage size there queued from =
        let same = end_part part_out outputs_of out_side sizes of.join.from of.join.output link.from link.output source stage size 0 there (first_of_two size queued) (omega (arith, from)) in
        let part : part_out Queued of.join.output ≡ 0 = ap (λ p. part_out p of.join.output) (sym queued) ∙ same.2 in
        absurd (omega (arith, part))

    not_second : (stage : ℕ) (size : StageSize) → slice_get sizes stage ≡ Some size → parting_of size ≡ Queued → suc (first_number sizes stage) ≡ link.to → ⊥
    not_second stage size there queued to =
        let same = end_part part_in inputs_of in_side sizes of.join.to of.join.input link.to link.input target stage size 1 there (second_of_two size queued) (omega (arith, to)) in
        let part : part_in Queued of.join.input ≡ 1 = ap (λ p. part_in p of.join.input) (sym queued) ∙ same.2 in
        absurd (omega (arith, part))

    no_queue : link.queue ≡ false
    no_queue = ap (λ (l : Link). l.queue) of.link_is

    join_queues : (link.queue ≡ true) ↔ IsQueue net link
    join_queues = (λ is. (let no = no_queue in cc), λ (queue : IsQueue net link). absurd (not_queue queue))
      where
        not_queue : IsQueue net link → ⊥
        not_queue queue =
            let there : Some leaves ≡ Some queue.producer = sym leaves_at ∙ queue.from_strand in
            let same : queue.producer ≡ leaves = cc in
            let first : part_out (parting_of source.size) of.join.output ≡ 0 = ap (λ (q : Strand). q.part) (sym same) ∙ queue.first in
            not_first of.join.from source.size source.stage_there (ap (λ (q : Strand). (form q).parting) (sym same) ∙ queue.queued) (omega (arith, first, source.number_is))

  -- the ends of a queue
  module _ (link : Link) (queue : IsStageQueue sizes link) where
    queue_from : first_number sizes queue.stage ≡ link.from
    queue_from = ap (λ (l : Link). l.from) (sym queue.link_is)

    queue_to : suc (first_number sizes queue.stage) ≡ link.to
    queue_to = ap (λ (l : Link). l.to) (sym queue.link_is)

    first_at : strand_at net nothing_yet link.from ≡ Some (own queue.stage queue.size 0)
    first_at = own_at queue.stage 0 link.from queue.size queue.stage_there (first_of_two queue.size queue.queued) (omega (arith, queue_from))

    second_at : strand_at net nothing_yet link.to ≡ Some (own queue.stage queue.size 1)
    second_at = own_at queue.stage 1 link.to queue.size queue.stage_there (second_of_two queue.size queue.queued) (omega (arith, queue_to))

    queue_joined : IsJoined net link
    queue_joined = record {
      producer = own queue.stage queue.size 0;
      consumer = own queue.stage queue.size 1;
      from_strand = first_at;
      to_strand = second_at;
      output = omega (arith, ap (λ (l : Link). l.output) queue.link_is, ap (λ parting. places_of parting (outputs_of queue.size.kind) queue.size.streams) queue.queued);
      input = omega (arith, ap (λ (l : Link). l.input) queue.link_is, ap (λ parting. places_of parting (inputs_of queue.size.kind) queue.size.streams) queue.queued);
    }

    is_queue : IsQueue net link
    is_queue = record {
      producer = own queue.stage queue.size 0;
      from_strand = first_at;
      queued = queue.queued;
      first = refl;
      second = sym queue_to ∙ ap suc queue_from;
    }

  joined : (j : ℕ) (link : Link) → slice_get links j ≡ Some link → IsJoined net link
  joined j link is = go (link_was sizes joins j link is)
    where
      go : OfJoin sizes joins j link ⊎ OfQueue sizes joins j link → IsJoined net link
      go (inl join) = join_joined j link join
      go (inr queue) = queue_joined link queue.queue

  queues : (j : ℕ) (link : Link) → slice_get links j ≡ Some link → (link.queue ≡ true) ↔ IsQueue net link
  queues j link is = go (link_was sizes joins j link is)
    where
      go : OfJoin sizes joins j link ⊎ OfQueue sizes joins j link → (link.queue ≡ true) ↔ IsQueue net link
      go (inl join) = join_queues j link join
      go (inr queue) = (λ is. is_queue link queue.queue, λ is. ap (λ (l : Link). l.queue) queue.queue.link_is)

  one_out : (j k : ℕ) (a b : Link) → slice_get links j ≡ Some a → slice_get links k ≡ Some b → a.from ≡ b.from → a.output ≡ b.output → j ≡ k
  one_out j k a b here there from output = go (link_was sizes joins j a here) (link_was sizes joins k b there)
    where
      go : OfJoin sizes joins j a ⊎ OfQueue sizes joins j a → OfJoin sizes joins k b ⊎ OfQueue sizes joins k b → j ≡ k
      go (inl first) (inl second) =
          let moved : IsEnd part_out outputs_of out_side sizes second.join.from second.join.output a.from a.output =
          subst (λ n. IsEnd part_out outputs_of out_side sizes second.join.from second.join.output n a.output) (sym from)
          (subst (λ n. IsEnd part_out outputs_of out_side sizes second.join.from second.join.output b.from n) (sym output) (source k b second)) in
          let same = one_end part_out outputs_of out_side sizes first.join.from first.join.output a.from a.output (source j a first) second.join.from second.join.output moved in
          good.lone_out j k first.join second.join first.join_there second.join_there same.0 same.1
      go (inl first) (inr second) = absurd (not_first j a first second.queue.stage second.queue.size second.queue.stage_there second.queue.queued (queue_from b second.queue ∙ sym from))
      go (inr first) (inl second) = absurd (not_first k b second first.queue.stage first.queue.size first.queue.stage_there first.queue.queued (queue_from a first.queue ∙ from))
      go (inr first) (inr second) = omega (arith, first.place_is, second.place_is, lone_queue sizes first.at second.at a b first.there second.there from)

  one_in : (j k : ℕ) (a b : Link) → slice_get links j ≡ Some a → slice_get links k ≡ Some b → a.to ≡ b.to → a.input ≡ b.input → j ≡ k
  one_in j k a b here there to input = go (link_was sizes joins j a here) (link_was sizes joins k b there)
    where
      go : OfJoin sizes joins j a ⊎ OfQueue sizes joins j a → OfJoin sizes joins k b ⊎ OfQueue sizes joins k b → j ≡ k
      go (inl first) (inl second) =
          let moved : IsEnd part_in inputs_of in_side sizes second.join.to second.join.input a.to a.input =
          subst (λ n. IsEnd part_in inputs_of in_side sizes second.join.to second.join.input n a.input) (sym to)
          (subst (λ n. IsEnd part_in inputs_of in_side sizes second.join.to second.join.input b.to n) (sym input) (target k b second)) in
          let same = one_end part_in inputs_of in_side sizes first.join.to first.join.input a.to a.input (target j a first) second.join.to second.join.input moved in
          good.lone_in j k first.join second.join first.join_there second.join_there same.0 same.1
      go (inl first) (inr second) = absurd (not_second j a first second.queue.stage second.queue.size second.queue.stage_there second.queue.queued (queue_to b second.queue ∙ sym to))
      go (inr first) (inl second) = absurd (not_second k b second first.queue.stage first.queue.size first.queue.stage_there first.queue.queued (queue_to a first.queue ∙ to))
      go (inr first) (inr second) =
          omega (arith, first.place_is, second.place_is, lone_queue sizes first.at second.at a b first.there second.there (omega (arith, queue_from a first.queue, queue_from b second.queue, queue_to a first.queue, queue_to b second.queue, to)))

  -- no link leads to a place that isn't there, or from one
  past_in : (s i : ℕ) (p : Strand) → strand_at net nothing_yet s ≡ Some p → p.ports.inputs ≤ i → is_linked_in links s i ≡ false
  past_in s i p is past = go (true_or_not (is_linked_in links s i))
    where
      go : (is_linked_in links s i ≡ true) ⊎ (is_linked_in links s i ≡ false) → is_linked_in links s i ≡ false
      go (inr none) = none
      go (inl some) =
          let r = passes_at (λ (link : Link). (link.to == s) && (link.input == i)) links some in
          let tests = both (r.1.to == s) (r.1.input == i) r.3 in
          let join = joined r.0 r.1 r.2 in
          let there : Some join.consumer ≡ Some p = sym join.to_strand ∙ ap (strand_at net nothing_yet) (eqb-true r.1.to s tests.0) ∙ is in
          let same : join.consumer ≡ p = cc in
          absurd (omega (arith, join.input, ap (λ (q : Strand). q.ports.inputs) same, eqb-true r.1.input i tests.1, past))

  past_out : (s o : ℕ) (p : Strand) → strand_at net nothing_yet s ≡ Some p → p.ports.outputs ≤ o → is_linked_out links s o ≡ false
  past_out s o p is past = go (true_or_not (is_linked_out links s o))
    where
      go : (is_linked_out links s o ≡ true) ⊎ (is_linked_out links s o ≡ false) → is_linked_out links s o ≡ false
      go (inr none) = none
      go (inl some) =
          let r = passes_at (λ (link : Link). (link.from == s) && (link.output == o)) links some in
          let tests = both (r.1.from == s) (r.1.output == o) r.3 in
          let join = joined r.0 r.1 r.2 in
          let there : Some join.producer ≡ Some p = sym join.from_strand ∙ ap (strand_at net nothing_yet) (eqb-true r.1.from s tests.0) ∙ is in
          let same : join.producer ≡ p = cc in
          absurd (omega (arith, join.output, ap (λ (q : Strand). q.ports.outputs) same, eqb-true r.1.output o tests.1, past))

  -- a strand of a stage
  module _ (stage part s : ℕ) (size : StageSize) (stage_there : slice_get sizes stage ≡ Some size) (below : part < width_of size) (number_is : first_number sizes stage + part ≡ s) where
    abbrev p : Strand
    p = own stage size part

    abbrev inputs : ℕ
    inputs = places_of (parting_of size) (inputs_of size.kind) size.streams

    abbrev outputs : ℕ
    outputs = places_of (parting_of size) (outputs_of size.kind) size.streams

    here : strand_at net nothing_yet s ≡ Some p
    here = own_at stage part s size stage_there below number_is

    -- its flags tell of its links
    own_told : TellsPorts net s p
    own_told = record {
      inputs = length-map-range_with_len (is_linked_in links (first_number sizes stage + part)) 0 inputs;
      outputs = length-map-range_with_len (is_linked_out links (first_number sizes stage + part)) 0 outputs;
      has_input = λ i. flag_is (is_linked_in links (first_number sizes stage + part)) inputs i (λ past. ap (λ n. is_linked_in links n i) number_is ∙ past_in s i p here past)
          ∙ ap (λ n. is_linked_in links n i) number_is ∙ found_or_not (λ (link : Link). (link.to == s) && (link.input == i)) links;
      has_output = λ o. flag_is (is_linked_out links (first_number sizes stage + part)) outputs o (λ past. ap (λ n. is_linked_out links n o) number_is ∙ past_out s o p here past)
          ∙ ap (λ n. is_linked_out links n o) number_is ∙ found_or_not (λ (link : Link). (link.from == s) && (link.output == o)) links;
    }

    others : (k : ℕ) → k < width_of size → (q : Strand) × (strand_at net nothing_yet (s - part + k) ≡ Some q) × (q.part ≡ k) × (q.kind ≡ size.kind)
    others k under = (own stage size k, own_at stage k (s - part + k) size stage_there under (omega (arith, number_is)), refl, refl)

    closed : (q : Strand) → strand_at net nothing_yet (s - part + width_of size) ≡ Some q → q.part ≡ 0
    closed q at =
        let r = part_was sizes links (s - part + width_of size) q at in
        ap (λ (x : Strand). x.part) r.1 ∙ begins sizes stage r.0.stage size r.0.size r.0.part stage_there r.0.stage_there r.0.below (omega (arith, r.0.number_is, number_is))

    -- it stands with the others of its stage
    own_staged : IsOfStage net s p size.streams
    own_staged =
        let stage_good = good.good_stage stage size stage_there in
        record {
          some = stage_good.some;
          few = stage_good.few;
          part = below;
          first = omega (arith, number_is);
          inputs = refl;
          outputs = refl;
          others = others;
          closed = closed;
        }

    -- it has its queue
    own_queue : parting_of size ≡ Queued → part ≡ 0 → (link : Link) × (link_out net nothing_yet s 0 ≡ Some link) × (link.to ≡ suc s) × (link.input ≡ 0)
    own_queue queued first =
        let first_is : first_number sizes stage ≡ s = omega (arith, number_is, first) in
        let stands = queue_stands sizes joins stage size stage_there queued in
        let passes : ((first_number sizes stage == s) && true) ≡ true = ap (λ b. b && true) (ap (λ n. n == s) first_is ∙ test_same s) in
        let found = finds (λ (link : Link). (link.from == s) && (link.output == 0)) links stands.0 stands.1 passes in
        let place = found_at (λ (link : Link). (link.from == s) && (link.output == 0)) links found.1 in
        let tests = both (found.0.from == s) (found.0.output == 0) place.0 in
        let one = one_out place.1.0 stands.0 found.0 (queue_at (first_number sizes stage)) place.1.1 stands.1 (eqb-true found.0.from s tests.0 ∙ sym first_is) (eqb-true found.0.output 0 tests.1) in
        let both_there : Some found.0 ≡ Some (queue_at (first_number sizes stage)) = sym place.1.1 ∙ ap (slice_get links) one ∙ stands.1 in
        let same : found.0 ≡ queue_at (first_number sizes stage) = cc in
        (found.0, found.1, ap (λ (link : Link). link.to) same ∙ ap suc first_is, ap (λ (link : Link). link.input) same)

  -- each strand is one of a stage
  module _ (s : ℕ) (p : Strand) (is : strand_at net nothing_yet s ≡ Some p) where
    of_stage : (it : IsPart sizes s) × (p ≡ own it.stage it.size it.part)
    of_stage = part_was sizes links s p is

    told : TellsPorts net s p
    told = let it = of_stage.0 in subst (TellsPorts net s) (sym of_stage.1) (own_told it.stage it.part s it.size it.stage_there it.below it.number_is)

    staged : (m : ℕ) × IsOfStage net s p m
    staged = let it = of_stage.0 in (it.size.streams, subst (λ q. IsOfStage net s q it.size.streams) (sym of_stage.1) (own_staged it.stage it.part s it.size it.stage_there it.below it.number_is))

    proper : (form p).proper ≡ true
    proper = let it = of_stage.0 in ap (λ (q : Strand). (form q).proper) of_stage.1 ∙ (good.good_stage it.stage it.size it.stage_there).proper

    queued : (form p).parting ≡ Queued → p.part ≡ 0 → (link : Link) × (link_out net nothing_yet s 0 ≡ Some link) × (link.to ≡ suc s) × (link.input ≡ 0)
    queued parting first =
        let it = of_stage.0 in
        own_queue it.stage it.part s it.size it.stage_there it.below it.number_is (ap (λ (q : Strand). (form q).parting) (sym of_stage.1) ∙ parting) (ap (λ (q : Strand). q.part) (sym of_stage.1) ∙ first)

  pub formed_by : IsWellFormed net
  formed_by = record {
    few = omega (arith, good.few, strands_count sizes links);
    joined = joined;
    one_out = one_out;
    one_in = one_in;
    told = told;
    staged = staged;
    proper = proper;
    main = λ s p is. ap (λ (q : Strand). q.unit) (of_stage s p is).1;
    queues = queues;
    queued = queued;
  }
