-- A net whose strands are of other kinds that its form can't tell from theirs stays well-formed.
use Rattle.std.proofs.Common.{◌≡◌, ℕ, ◌<◌, ◌≤◌, List, ◌∙◌, length, refl, ap, sym, subst, Some}
use Rattle.pipe_model.specs.declared.net.Link.{Link}
use Rattle.pipe_model.specs.declared.net.Net.{Net}
use Rattle.pipe_model.specs.declared.net.Strand.{Strand}
use Rattle.pipe_model.specs.State.{nothing_yet, strand_at}
use Rattle.pipe_model.specs.Members.{flag_at}
use Rattle.pipe_model.specs.Table.{form}
use Rattle.pipe_model.specs.WellFormed.{IsJoined, IsOfStage, IsQueue, IsWellFormed, TellsPorts}

-- a strand of another kind that the net's form can't tell from it
pub record IsLike (p q : Strand) : Type 0 where
  pub part : q.part ≡ p.part
  pub unit : q.unit ≡ p.unit
  pub ports : q.ports ≡ p.ports
  pub inputs : (form q).inputs ≡ (form p).inputs
  pub outputs : (form q).outputs ≡ (form p).outputs
  pub parting : (form q).parting ≡ (form p).parting
  pub proper : (form q).proper ≡ (form p).proper

pub itself : (p : Strand) → IsLike p p
itself p = record { part = refl; unit = refl; ports = refl; inputs = refl; outputs = refl; parting = refl; proper = refl }

module _ (net : Net) (strands : List Strand) (few : length strands ≡ length net.strands)
    (forth : (t : ℕ) (q : Strand) → strand_at net nothing_yet t ≡ Some q → (r : Strand) × (strand_at (record net { strands = strands }) nothing_yet t ≡ Some r) × IsLike q r)
    (back : (t : ℕ) (r : Strand) → strand_at (record net { strands = strands }) nothing_yet t ≡ Some r → (q : Strand) × (strand_at net nothing_yet t ≡ Some q) × IsLike q r)
    (formed : IsWellFormed net) where
  abbrev new : Net
  new = record net { strands = strands }

  joined : (link : Link) → IsJoined net link → IsJoined new link
  joined link is =
      let a = forth link.from is.producer is.from_strand in
      let b = forth link.to is.consumer is.to_strand in
      record {
        producer = a.0;
        consumer = b.0;
        from_strand = a.1;
        to_strand = b.1;
        output = subst (λ ports. link.output < ports.outputs) (sym a.2.ports) is.output;
        input = subst (λ ports. link.input < ports.inputs) (sym b.2.ports) is.input;
      }

  told : (t : ℕ) (r : Strand) → strand_at new nothing_yet t ≡ Some r → TellsPorts new t r
  told t r is =
      let q = back t r is in
      let tells = formed.told t q.0 q.1 in
      record {
        inputs = subst (λ ports. length ports.has_input ≡ ports.inputs) (sym q.2.ports) tells.inputs;
        outputs = subst (λ ports. length ports.has_output ≡ ports.outputs) (sym q.2.ports) tells.outputs;
        has_input = λ i. ap (λ ports. flag_at ports.has_input i) q.2.ports ∙ tells.has_input i;
        has_output = λ o. ap (λ ports. flag_at ports.has_output o) q.2.ports ∙ tells.has_output o;
      }

  queue_forth : (link : Link) → IsQueue net link → IsQueue new link
  queue_forth link is =
      let a = forth link.from is.producer is.from_strand in
      record { producer = a.0; from_strand = a.1; queued = a.2.parting ∙ is.queued; first = a.2.part ∙ is.first; second = is.second }

  queue_back : (link : Link) → IsQueue new link → IsQueue net link
  queue_back link is =
      let a = back link.from is.producer is.from_strand in
      record { producer = a.0; from_strand = a.1; queued = sym a.2.parting ∙ is.queued; first = sym a.2.part ∙ is.first; second = is.second }

  pub like_formed : ((t : ℕ) (r : Strand) → strand_at new nothing_yet t ≡ Some r → (m : ℕ) × IsOfStage new t r m) → IsWellFormed new
  like_formed staged = record {
    few = subst (λ n. n ≤ 65536) (sym few) formed.few;
    joined = λ j link is. joined link (formed.joined j link is);
    one_out = formed.one_out;
    one_in = formed.one_in;
    told = told;
    staged = staged;
    proper = λ t r is. (let q = back t r is in q.2.proper ∙ formed.proper t q.0 q.1);
    main = λ t r is. (let q = back t r is in q.2.unit ∙ formed.main t q.0 q.1);
    queues = λ j link is. (let q = formed.queues j link is in (λ queue. queue_forth link (q.0 queue), λ queue. q.1 (queue_back link queue)));
    queued = λ t r is parting part. (let q = back t r is in formed.queued t q.0 q.1 (sym q.2.parting ∙ parting) (sym q.2.part ∙ part));
  }
