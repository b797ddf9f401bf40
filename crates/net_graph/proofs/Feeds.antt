-- A net whose stages are fed stays well-formed.
use Rattle.std.proofs.Common.{◌≡◌, ◌≢◌, ◌⊎◌, inl, inr, ℕ, ◌+◌, ◌-◌, ◌<◌, ◌||◌, true, List, ◌∙◌, length-set, map, slice_get, slice_set, refl, ap, ap₂, sym, subst, arith, Option, Some, None}
use Rattle.std.specs.Option.{option_map, option_map_or}
use Rattle.std.proofs.lemmas.Option.{slice_get-map}
use Rattle.std.proofs.lemmas.List.{length-map, set-set}
use Rattle.pipe_model.specs.declared.kind.Kind.{Kind}
use Rattle.pipe_model.specs.declared.kind.Kind.TheVariants.{ConsoleIn, FileIn}
use Rattle.pipe_model.specs.declared.net.Net.{Net}
use Rattle.pipe_model.specs.declared.net.Strand.{Strand}
use Rattle.pipe_model.specs.State.{nothing_yet, strand_at}
use Rattle.pipe_model.specs.Table.{form, line_of}
use Rattle.pipe_model.specs.Form.{Parting, parting_by}
use Rattle.pipe_model.specs.Form.Parting.{Whole}
use Rattle.pipe_model.specs.WellFormed.{IsOfStage, IsWellFormed, places_of, strands_of}
use Rattle.pipe_model.proofs.Numbers.{equal_or_not}
use Rattle.pipe_model.proofs.Lists.{get_set_same, get_set_other}
use Rattle.net_graph.specs.Nets.{inputs_of, outputs_of}
use Rattle.net_graph.specs.Fed.{fed, fed_kind, filed, filed_kind, input_kind, reads_file, reads_input, with_bytes, with_input, with_kind}
use Rattle.net_graph.proofs.Likes.{IsLike, itself, like_formed}

-- a kind that a net's form can't tell from another
record IsAlike (old new : Kind) : Type 0 where
  inputs : inputs_of new ≡ inputs_of old
  outputs : outputs_of new ≡ outputs_of old
  parting : parting_by (line_of new).shape ≡ parting_by (line_of old).shape
  proper : (line_of new).proper ≡ (line_of old).proper

alike_itself : (kind : Kind) → IsAlike kind kind
alike_itself kind = record { inputs = refl; outputs = refl; parting = refl; proper = refl }

other_input : (old new : List ℕ) → IsAlike (ConsoleIn old) (ConsoleIn new)
other_input old new = record { inputs = refl; outputs = refl; parting = refl; proper = refl }

other_file : (name : List ℕ) (old new : Option (List ℕ)) → IsAlike (FileIn name old) (FileIn name new)
other_file name None None = alike_itself (FileIn name None)
other_file name None (Some new) = record { inputs = refl; outputs = refl; parting = refl; proper = refl }
other_file name (Some old) None = record { inputs = refl; outputs = refl; parting = refl; proper = refl }
other_file name (Some old) (Some new) = record { inputs = refl; outputs = refl; parting = refl; proper = refl }

-- One stage

other_bytes : (bytes : List ℕ) (kind : Kind) → IsAlike kind (with_bytes bytes kind)
other_bytes bytes (ConsoleIn old) = other_input old bytes
other_bytes bytes (FileIn name old) = other_file name old (Some bytes)
other_bytes bytes kind = alike_itself kind

-- a stage that is fed bytes has one strand
read_whole : (kind : Kind) → (reads_input kind || reads_file kind) ≡ true → parting_by (line_of kind).shape ≡ Whole
read_whole (ConsoleIn bytes) reads = refl
read_whole (FileIn name None) reads = refl
read_whole (FileIn name (Some bytes)) reads = refl
read_whole _ reads = cc

module _ (net : Net) (s : ℕ) (p : Strand) (here : slice_get net.strands s ≡ Some p) (kind : Kind) (alike : IsAlike p.kind kind) (one : parting_by (line_of p.kind).shape ≡ Whole) where
  abbrev read : Strand
  read = record p { kind = kind }

  abbrev new : Net
  new = record net { strands = slice_set net.strands s read }

  like : IsLike p read
  like = record { part = refl; unit = refl; ports = refl; inputs = alike.inputs; outputs = alike.outputs; parting = alike.parting; proper = alike.proper }

  at_read : strand_at new nothing_yet s ≡ Some read
  at_read = get_set_same net.strands s read p here

  at_other : (t : ℕ) → t ≢ s → strand_at new nothing_yet t ≡ strand_at net nothing_yet t
  at_other t apart = get_set_other net.strands s t read apart

  forth : (t : ℕ) (q : Strand) → strand_at net nothing_yet t ≡ Some q → (r : Strand) × (strand_at new nothing_yet t ≡ Some r) × IsLike q r
  forth t q is = by (equal_or_not t s) where
    by : (t ≡ s) ⊎ (t ≢ s) → (r : Strand) × (strand_at new nothing_yet t ≡ Some r) × IsLike q r
    by (inl same) =
        let q_is : p ≡ q = (let e : Some p ≡ Some q = sym here ∙ ap (slice_get net.strands) (sym same) ∙ is in cc) in
        (read, ap (slice_get new.strands) same ∙ at_read, subst (λ (x : Strand). IsLike x read) q_is like)
    by (inr apart) = (q, at_other t apart ∙ is, itself q)

  back : (t : ℕ) (r : Strand) → strand_at new nothing_yet t ≡ Some r → (q : Strand) × (strand_at net nothing_yet t ≡ Some q) × IsLike q r
  back t r is = by (equal_or_not t s) where
    by : (t ≡ s) ⊎ (t ≢ s) → (q : Strand) × (strand_at net nothing_yet t ≡ Some q) × IsLike q r
    by (inl same) =
        let r_is : read ≡ r = (let e : Some read ≡ Some r = sym at_read ∙ ap (slice_get new.strands) (sym same) ∙ is in cc) in
        (p, ap (slice_get net.strands) same ∙ here, subst (IsLike p) r_is like)
    by (inr apart) = (r, sym (at_other t apart) ∙ is, itself r)

  module _ (formed : IsWellFormed net) where
    staged_read : (m : ℕ) → IsOfStage net s p m → IsOfStage new s read m
    staged_read m st =
        let single = ap (λ (x : Parting). strands_of x m) one in
        let still_single = ap (λ (x : Parting). strands_of x m) (alike.parting ∙ one) in
        record {
          some = st.some;
          few = st.few;
          part = omega (arith, st.part, single, still_single);
          first = st.first;
          inputs = st.inputs ∙ ap₂ (λ (x : Parting) (n : ℕ). places_of x n m) (sym like.parting) (sym alike.inputs);
          outputs = st.outputs ∙ ap₂ (λ (x : Parting) (n : ℕ). places_of x n m) (sym like.parting) (sym alike.outputs);
          others = λ k below. (let only : s - p.part + k ≡ s = omega (arith, st.part, single, still_single, below) in
              (read, ap (slice_get new.strands) only ∙ at_read, omega (arith, st.part, single, still_single, below), refl));
          closed = λ q is. (
              let ends : s - p.part + strands_of (form read).parting m ≡ s - p.part + strands_of (form p).parting m = omega (arith, single, still_single) in
              let b = back (s - p.part + strands_of (form read).parting m) q is in
              b.2.part ∙ st.closed b.0 (ap (slice_get net.strands) (sym ends) ∙ b.1)
              );
        }

    staged_other : (t : ℕ) → t ≢ s → (q : Strand) (m : ℕ) → IsOfStage net t q m → IsOfStage new t q m
    staged_other t apart q m st = record {
      some = st.some;
      few = st.few;
      part = st.part;
      first = st.first;
      inputs = st.inputs;
      outputs = st.outputs;
      others = λ k below. other k below (equal_or_not (t - q.part + k) s);
      closed = λ r is. (let b = back (t - q.part + strands_of (form q).parting m) r is in b.2.part ∙ st.closed b.0 b.1);
    } where
      other : (k : ℕ) → k < strands_of (form q).parting m → (t - q.part + k ≡ s) ⊎ (t - q.part + k ≢ s) →
          (r : Strand) × (strand_at new nothing_yet (t - q.part + k) ≡ Some r) × (r.part ≡ k) × (r.kind ≡ q.kind)
      other k below (inl same) =
          let o = st.others k below in
          let e : Some p ≡ Some o.0 = sym here ∙ (ap (slice_get net.strands) (sym same) ∙ o.1) in
          let is : p ≡ o.0 = cc in
          let kinds : q.kind ≡ p.kind = sym o.3 ∙ ap (λ (x : Strand). x.kind) (sym is) in
          let single = ap (λ (x : Kind). strands_of (parting_by (line_of x).shape) m) kinds ∙ ap (λ (x : Parting). strands_of x m) one in
          absurd (apart (omega (arith, same, below, single, st.part)))
      other k below (inr there) = let o = st.others k below in (o.0, at_other (t - q.part + k) there ∙ o.1, o.2, o.3)

    staged : (t : ℕ) (r : Strand) → strand_at new nothing_yet t ≡ Some r → (m : ℕ) × IsOfStage new t r m
    staged t r is = by (equal_or_not t s) where
      by : (t ≡ s) ⊎ (t ≢ s) → (m : ℕ) × IsOfStage new t r m
      by (inl same) =
          let e : Some read ≡ Some r = sym at_read ∙ (ap (slice_get new.strands) (sym same) ∙ is) in
          let r_is : read ≡ r = cc in
          let st = formed.staged s p here in
          (st.0, subst (λ (x : ℕ). IsOfStage new x r st.0) (sym same) (subst (λ (y : Strand). IsOfStage new s y st.0) r_is (staged_read st.0 st.1)))
      by (inr apart) = let st = formed.staged t r (sym (at_other t apart) ∙ is) in (st.0, staged_other t apart r st.0 st.1)

    still_formed : IsWellFormed new
    still_formed = like_formed net new.strands (length-set net.strands s read) forth back formed staged

-- the net of which one stage is fed
pub with_bytes_formed : (net : Net) (strand : ℕ) (p : Strand) (bytes : List ℕ) → slice_get net.strands strand ≡ Some p → (reads_input p.kind || reads_file p.kind) ≡ true → IsWellFormed net →
    IsWellFormed (with_kind net strand (with_bytes bytes p.kind))
with_bytes_formed net strand p bytes here reads formed =
    subst IsWellFormed (sym (ap (λ (found : Option Strand). record net {
      strands = option_map_or (λ (q : Strand). slice_set net.strands strand (record q { kind = with_bytes bytes p.kind })) found net.strands;
    }) here)) (still_formed net strand p here (with_bytes bytes p.kind) (other_bytes bytes p.kind) (read_whole p.kind reads) formed)

-- a net in which the kind of a stage is replaced twice is the net with the last kind
pub replaced_twice : (net : Net) (strand : ℕ) (p q r : Strand) (between last : List Strand) (hole kind : Kind) → slice_get net.strands strand ≡ Some p →
    slice_get net.strands strand ≡ Some q → between ≡ slice_set net.strands strand (record q { kind = hole }) →
    slice_get between strand ≡ Some r → last ≡ slice_set between strand (record r { kind = kind }) →
    (let after : Net = record net { strands = last } in after) ≡ with_kind net strand kind
replaced_twice net strand p q r between last hole kind here found taken again put =
    let e : Some p ≡ Some q = sym here ∙ found in
    let same : q ≡ p = cc in
    let there : Some r ≡ Some (record q { kind = hole }) =
    sym again ∙ (ap (λ (ps : List Strand). slice_get ps strand) taken ∙ get_set_same net.strands strand (record q { kind = hole }) q found) in
    let holed : r ≡ record q { kind = hole } = cc in
    let now : record r { kind = kind } ≡ record p { kind = kind } = ap (λ (x : Strand). record x { kind = kind }) holed ∙ ap (λ (x : Strand). record x { kind = kind }) same in
    ap (λ (ps : List Strand). record net { strands = ps }) (
    put
    ∙ ap (λ (ps : List Strand). slice_set ps strand (record r { kind = kind })) taken
    ∙ set-set net.strands strand (record q { kind = hole }) (record r { kind = kind })
    ∙ ap (slice_set net.strands strand) now
    ∙ sym (ap (λ (x : Option Strand). option_map_or (λ (y : Strand). slice_set net.strands strand (record y { kind = kind })) x net.strands) here)
    )

-- All stages at once

module _ (change : Kind → Kind) (alike : (kind : Kind) → IsAlike kind (change kind)) (net : Net) where
  abbrev changed_strand : Strand → Strand
  changed_strand p = record p { kind = change p.kind }

  abbrev changed : Net
  changed = record net { strands = map changed_strand net.strands }

  changed_like : (p : Strand) → IsLike p (changed_strand p)
  changed_like p =
      let a = alike p.kind in
      record { part = refl; unit = refl; ports = refl; inputs = a.inputs; outputs = a.outputs; parting = a.parting; proper = a.proper }

  changed_at : (t : ℕ) → strand_at changed nothing_yet t ≡ option_map changed_strand (strand_at net nothing_yet t)
  changed_at t = slice_get-map changed_strand net.strands t

  changed_forth : (t : ℕ) (q : Strand) → strand_at net nothing_yet t ≡ Some q → (r : Strand) × (strand_at changed nothing_yet t ≡ Some r) × IsLike q r
  changed_forth t q is = (changed_strand q, changed_at t ∙ ap (option_map changed_strand) is, changed_like q)

  changed_back : (t : ℕ) (r : Strand) → strand_at changed nothing_yet t ≡ Some r → (q : Strand) × (strand_at net nothing_yet t ≡ Some q) × (changed_strand q ≡ r)
  changed_back t r is = by (strand_at net nothing_yet t) refl (sym (changed_at t) ∙ is) where
    by : (found : Option Strand) → strand_at net nothing_yet t ≡ found → option_map changed_strand found ≡ Some r → (q : Strand) × (strand_at net nothing_yet t ≡ Some q) × (changed_strand q ≡ r)
    by None was is = cc
    by (Some q) was is = (q, was, (let e : changed_strand q ≡ r = cc in e))

  changed_staged : (t m : ℕ) (q : Strand) → IsOfStage net t q m → IsOfStage changed t (changed_strand q) m
  changed_staged t m q st =
      let like = changed_like q in
      let count = ap (λ (x : Parting). strands_of x m) like.parting in
      record {
        some = st.some;
        few = st.few;
        part = omega (arith, st.part, count);
        first = st.first;
        inputs = st.inputs ∙ ap₂ (λ (x : Parting) (n : ℕ). places_of x n m) (sym like.parting) (sym like.inputs);
        outputs = st.outputs ∙ ap₂ (λ (x : Parting) (n : ℕ). places_of x n m) (sym like.parting) (sym like.outputs);
        others = λ k below. (let o = st.others k (omega (arith, below, count)) in
            (changed_strand o.0, changed_at (t - q.part + k) ∙ ap (option_map changed_strand) o.1, o.2, ap change o.3));
        closed = λ r is. (
            let ends : t - q.part + strands_of (form (changed_strand q)).parting m ≡ t - q.part + strands_of (form q).parting m = omega (arith, count) in
            let b = changed_back (t - q.part + strands_of (form (changed_strand q)).parting m) r is in
            ap (λ (x : Strand). x.part) (sym b.2) ∙ st.closed b.0 (ap (slice_get net.strands) (sym ends) ∙ b.1)
            );
      }

  changed_formed : IsWellFormed net → IsWellFormed changed
  changed_formed formed = like_formed net (map changed_strand net.strands) (length-map net.strands changed_strand) changed_forth
      (λ t r is. (let b = changed_back t r is in (b.0, b.1, subst (IsLike b.0) b.2 (changed_like b.0))))
      formed
      (λ t r is. (let b = changed_back t r is in let st = formed.staged t b.0 b.1 in (st.0, subst (λ x. IsOfStage changed t x st.0) b.2 (changed_staged t st.0 b.0 st.1))))

alike_fed : (input : List ℕ) (files : List ℕ → Option (List ℕ)) (kind : Kind) → IsAlike kind (fed_kind input files kind)
alike_fed input files (ConsoleIn bytes) = other_input bytes input
alike_fed input files (FileIn name bytes) = other_file name bytes (files name)
alike_fed input files kind = alike_itself kind

alike_filed : (files : List ℕ → Option (List ℕ)) (kind : Kind) → IsAlike kind (filed_kind files kind)
alike_filed files (FileIn name bytes) = other_file name bytes (files name)
alike_filed files kind = alike_itself kind

alike_input : (input : List ℕ) (kind : Kind) → IsAlike kind (input_kind input kind)
alike_input input (ConsoleIn bytes) = other_input bytes input
alike_input input kind = alike_itself kind

-- the net that is fed its input and its files
pub fed_formed : (input : List ℕ) (files : List ℕ → Option (List ℕ)) (net : Net) → IsWellFormed net → IsWellFormed (fed input files net)
fed_formed input files net formed = changed_formed (fed_kind input files) (alike_fed input files) net formed

-- the one that is fed its files
pub filed_formed : (files : List ℕ → Option (List ℕ)) (net : Net) → IsWellFormed net → IsWellFormed (filed files net)
filed_formed files net formed = changed_formed (filed_kind files) (alike_filed files) net formed

-- the one that is fed its input
pub input_formed : (input : List ℕ) (net : Net) → IsWellFormed net → IsWellFormed (with_input input net)
input_formed input net formed = changed_formed (input_kind input) (alike_input input) net formed
