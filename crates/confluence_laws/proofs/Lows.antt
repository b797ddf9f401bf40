-- How far the strands on the ways to a strand have come, against what the first pass says of a record at hand and of one that comes later.
use Rattle.std.proofs.Common.{◌≡◌, ◌≢◌, inl, inr, ℕ, zero, suc, ◌≤◌, ◌<◌, Bool, true, false, ◌&&◌, ◌==◌, List, [], ◌∷◌, length, refl, sym, ◌∙◌, ap, subst, arith, Option, Some, None, slice_get}
use Rattle.std.proofs.lemmas.Bool.{eqb-true}
use Rattle.std.proofs.lemmas.Option.{slice_get_within}
use Rattle.pipe_model.specs.declared.net.Net.{Net}
use Rattle.pipe_model.specs.declared.net.Link.{Link}
use Rattle.pipe_model.specs.declared.net.Strand.{Strand}
use Rattle.pipe_model.specs.Event.{Event, puts_on, tooks_on, records_on, has_ended, in_sight}
use Rattle.pipe_model.specs.Event.Event.{Put}
use Rattle.pipe_model.specs.Event.Want.{Write}
use Rattle.pipe_model.specs.Row.{sees}
use Rattle.pipe_model.specs.Table.{form}
use Rattle.pipe_model.specs.Form.Meeting.{Ordered, Braided}
use Rattle.pipe_model.specs.Form.Parting.{Queued}
use Rattle.pipe_model.specs.Next.{Past, next, IsOwn}
use Rattle.pipe_model.specs.State.{State, Who, past, same, nothing_yet, strand_at, link_in, link_out}
use Rattle.pipe_model.specs.Licence.{none_left, want_after, want_at, puts, tooks}
use Rattle.pipe_model.specs.WellFormed.{IsWellFormed}
use Rattle.pipe_model.specs.Settled.{is_thin}
use Rattle.pipe_model.specs.Plain.{IsPlain}
use Rattle.pipe_model.specs.Tags.{written, last_input, before_put}
use Rattle.pipe_model.specs.Alone.{Given, list_on, whole, lists_of, tag_orders, IsAlone, IsFirstPass, IsTaggedPass}
use Rattle.pipe_model.proofs.Truths.{both}
use Rattle.pipe_model.proofs.Lists.{found_at}
use Rattle.confluence_laws.proofs.Asked.{plain_strand}
use Rattle.confluence_laws.proofs.Basics.{not_ended, from_in, more_tooks, put_asked}
use Rattle.confluence_laws.proofs.Sound.{sound_line}
use Rattle.confluence_laws.proofs.Fitting.{sees_is}
use Rattle.confluence_laws.proofs.Owns.{last_zero}
use Rattle.confluence_laws.proofs.Braids.{plain_link, writes_there}
use Rattle.confluence_laws.proofs.Reached.{IsWriting}
use Rattle.confluence_laws.proofs.Within.{Within, alone_within, is_all, count_is}
use Rattle.confluence_laws.proofs.Cuts.{next_put}
use Rattle.confluence_laws.proofs.Ways.{HasNoEarly, IsOnTheWay, IsFollowing, following, so_far}
use Rattle.confluence_laws.proofs.Befores.{grown, more_written, before_it, found_put, put_there, alone_own, sight_listed}
use Rattle.confluence_laws.proofs.Upstream.{PassesOn}
use Rattle.confluence_laws.proofs.LastSeen.{sight_there}
use Rattle.confluence_laws.proofs.Paths.{CameIn}

-- a place behind the end holds nothing
pub no_place : {A : Type 0} (xs : List A) (k : ℕ) → slice_get xs k ≡ None → length xs ≤ k
no_place [] k e = omega arith
no_place (x ∷ xs) zero e = cc
no_place (x ∷ xs) (suc k) e = let r = no_place xs k e in omega (arith, r)

-- a strand that passes records on is no part of a stage with a queue
not_queued : (p : Strand) → PassesOn p → (form p).parting ≢ Queued
not_queued p on queued = elim on [
  | inl thin ↦ (let z : true ≡ false = sym (both (form p).thin (p.ports.inputs == 1) thin).0 ∙ ((sound_line p).queued queued).0 in cc)
  | inr braided ↦ (let z : Braided ≡ Ordered = sym braided ∙ ((sound_line p).queued queued).1 in cc)
]

-- the record is on the link's list
abbrev pub IsListed : State → Link → ℕ → Type 0
IsListed first l k = k < puts_on l.output (past first l.from)

module _ (net : Net) (first : State) (pass : IsTaggedPass net first) (u : Who) (h : List Event) (o : ℕ) (rec : List ℕ) (put : Within (past first u) (Put o rec ∷ h)) (p : Strand) (here : strand_at net nothing_yet u ≡ Some p) where
  by_itself : IsAlone p (whole net (tag_orders net first) (lists_of first) u) (Put o rec ∷ h)
  by_itself = alone_within p (whole net (tag_orders net first) (lists_of first) u) (past first u) (pass u p here) (Put o rec ∷ h) put

  own_put : IsOwn p (Put o rec ∷ h)
  own_put = alone_own p (whole net (tag_orders net first) (lists_of first) u) (Put o rec ∷ h) by_itself

  -- where a strand that passes records on put one, it had one in sight
  pub sight_at_put : PassesOn p → in_sight (last_input h) h ≡ true
  sight_at_put on = let want = put_asked (next p h) o rec own_put.0 in sight_there p on h own_put.1 o want.0 want.1

  -- which is on the list
  pub up_listed : PassesOn p → CameIn net first (IsListed first) h u
  up_listed on =
      let seen = sight_listed p (whole net (tag_orders net first) (lists_of first) u) h (last_input h) by_itself.1 (sight_at_put on) in
      by_link (link_in net nothing_yet u (last_input h)) refl seen.0 seen.1
    where
      by_link : (lk : Option Link) → link_in net nothing_yet u (last_input h) ≡ lk → (x : List ℕ) → slice_get (list_on (lists_of first) lk) (tooks_on (last_input h) h) ≡ Some x → CameIn net first (IsListed first) h u
      by_link None e x seen = cc
      by_link (Some m) e x seen = record {
        link = m;
        linked = e;
        holds = (let place = slice_get_within (records_on m.output (past first m.from)) (tooks_on (last_input h) h) _ seen in let count = count_is m.output (past first m.from) in omega (arith, place, count));
        thin = λ q there thin.
            let one : Some p ≡ Some q = sym here ∙ there in
            let it : p ≡ q = cc in
            last_zero p (both (form p).thin (p.ports.inputs == 1) (subst (λ z. is_thin z ≡ true) (sym it) thin)).0 h own_put.1;
      }

module _ (net : Net) (formed : IsWellFormed net) (plain : IsPlain net) (calm : HasNoEarly net) (first : State) (pass : IsTaggedPass net first) where
  -- the first pass's lists
  abbrev pub listed : IsFirstPass net (tag_orders net first) (lists_of first)
  listed s p e = (past first s, pass s p e, λ o. refl)

  abbrev pub given : Who → Given
  given s = whole net (tag_orders net first) (lists_of first) s

  abbrev pub Way : State → Type 0
  Way st = IsOnTheWay net formed plain calm (tag_orders net first) (lists_of first) listed st

  abbrev pub Following : State → (s : Who) (p : Strand) → strand_at net nothing_yet s ≡ Some p → Type 0
  Following st s p e = IsFollowing net formed plain calm (tag_orders net first) (lists_of first) listed st s p e

  module _ (st : State) (way : Way st) where
    -- so many records the strand wrote, as the first pass counts
    pub record Low (u : Who) (n : ℕ) : Type 0 where
      pub strand : Strand
      pub there : strand_at net nothing_yet u ≡ Some strand
      pub follows : Following st u strand there
      pub is : n ≡ written follows.other

    -- it wrote no more than so many
    abbrev pub High : Who → ℕ → Type 0
    High u m = (p : Strand) (e : strand_at net nothing_yet u ≡ Some p) (y : Following st u p e) → written y.other ≤ m

    pub meets_at_strand : (u : Who) (n m : ℕ) → Low u n → High u m → n ≤ m
    meets_at_strand u n m low high = let a = high low.strand low.there low.follows in let b = low.is in omega (arith, a, b)

    -- a rendezvous into a strand that goes on
    pub record IsInto (l : Link) : Type 0 where
      pub linked : link_in net nothing_yet l.to l.input ≡ Some l
      pub plain_one : l.queue ≡ false
      pub going : has_ended (past st l.to) ≡ false

    module _ (l : Link) (into : IsInto l) where
      pub out_is : link_out net nothing_yet l.from l.output ≡ Some l
      out_is = (from_in net formed nothing_yet l.to l.input l into.linked).2

      -- whoever follows there has put as many
      pub same_puts : (q : Strand) (e : strand_at net nothing_yet l.from ≡ Some q) (y : Following st l.from q e) → puts_on l.output y.other ≡ puts st l
      same_puts q e y = sym (count_is l.output y.other) ∙ ap length (so_far net formed plain calm (tag_orders net first) (lists_of first) listed st way l.to l.input l into.linked into.going q e y) ∙ count_is l.output (past st l.from)

      -- and its producer follows
      pub follows_there : (q : Strand) (e : strand_at net nothing_yet l.from ≡ Some q) → Following st l.from q e
      follows_there q e = following net formed plain calm (tag_orders net first) (lists_of first) listed st way l.to l.input l into.linked into.going q e

      pub producer : (q : Strand) × (strand_at net nothing_yet l.from ≡ Some q)
      producer =
          let r = found_at (λ k. same k.to l.to && k.input == l.input) net.links into.linked in
          let j = formed.joined r.1.0 l r.1.1 in
          (j.producer, j.from_strand)

    -- a link into a strand that passes records on and goes on
    pub into_passing : (u : Who) (i : ℕ) (p : Strand) (m : Link) → strand_at net nothing_yet u ≡ Some p → PassesOn p → has_ended (past st u) ≡ false → link_in net nothing_yet u i ≡ Some m → IsInto m
    into_passing u i p m e on going at =
        let x = from_in net formed nothing_yet u i m at in
        record {
          linked = subst (λ z. link_in net nothing_yet m.to z ≡ Some m) (sym x.1) (subst (λ z. link_in net nothing_yet z i ≡ Some m) (sym x.0) at);
          plain_one = plain_link net formed st way.reached u i m p at e (not_queued p on);
          going = subst (λ z. has_ended (past st z) ≡ false) (sym x.0) going;
        }

    -- what was taken on a link into u
    pub took_there : (u : Who) (i : ℕ) (m : Link) → link_in net nothing_yet u i ≡ Some m → tooks st m ≡ tooks_on i (past st u)
    took_there u i m at = let x = from_in net formed nothing_yet u i m at in ap (λ z. tooks_on m.input (past st z)) x.0 ∙ ap (λ z. tooks_on z (past st u)) x.1

    -- whoever follows has the same in sight
    same_sight : (u : Who) (q : Strand) (e : strand_at net nothing_yet u ≡ Some q) (y : Following st u q e) (i : ℕ) → in_sight i y.other ≡ in_sight i (past st u)
    same_sight u q e y i =
        sym (sees_is q y.other (alone_own q (given u) y.other (alone_within q (given u) (past first u) (pass u q e) y.other y.within)) i)
        ∙ ap (λ (z : Past). sees i z.known.sight) (y.past_other) ∙ sym (ap (λ (z : Past). sees i z.known.sight) y.past)
        ∙ sees_is q (past st u) (way.own u q e) i

    -- A record at hand

    pub record IsLow (l : Link) (k : ℕ) : Type 0 where
      pub into : IsInto l
      pub writing : IsWriting net st l
      pub next_is : k ≡ tooks st l

    module _ (l : Link) (k : ℕ) (x : IsLow l k) where
      pub wants : (rec : List ℕ) × (want_at net st none_left l.from ≡ Some (Write l.output rec))
      wants = writes_there net st l x.writing

      wants_it : (q : Strand) → strand_at net nothing_yet l.from ≡ Some q → next q (past st l.from) ≡ Some (Write l.output wants.0)
      wants_it q e = ap (λ z. want_after z (past st l.from)) (sym e) ∙ wants.1

      writer_goes : has_ended (past st l.from) ≡ false
      writer_goes = not_ended (strand_at net st l.from) (past st l.from) (Write l.output wants.0) wants.1

      -- the whole history puts it next, and this is what came before it
      pub put_next : (q : Strand) (e : strand_at net nothing_yet l.from ≡ Some q) → (y : Following st l.from q e) × Within (past first l.from) (Put l.output wants.0 ∷ y.other) × (before_put l.output k (past first l.from) ≡ y.other)
      put_next q e =
          let u = next_put q (plain_strand net plain l.from q e) (given l.from) (λ o. refl) (past first l.from) (pass l.from q e) (past st l.from) l.output wants.0 (way.own l.from q e) writer_goes (follows_there l x.into q e) (wants_it q e) in
          let n : k ≡ puts_on l.output u.0.other = x.next_is ∙ sym (eqb-true (puts st l) (tooks st l) x.writing.level) ∙ sym (same_puts l x.into q e u.0) in
          (u.0, u.1, ap (λ z. before_put l.output z (past first l.from)) n ∙ found_put (past first l.from) u.0.other l.output wants.0 u.1)

      pub low_puts : (rec : List ℕ) × Within (past first l.from) (Put l.output rec ∷ before_put l.output k (past first l.from)) × Low l.from (written (before_put l.output k (past first l.from)))
      low_puts =
          let q = producer l x.into in
          let r = put_next q.0 q.1 in
          (wants.0, subst (λ z. Within (past first l.from) (Put l.output wants.0 ∷ z)) (sym r.2) r.1, record { strand = q.0; there = q.1; follows = r.0; is = ap written r.2 })

      -- so did the strand before it
      pub low_up : ((p : Strand) → strand_at net nothing_yet l.from ≡ Some p → PassesOn p) → CameIn net first IsLow (before_put l.output k (past first l.from)) l.from
      low_up passing =
          let q = producer l x.into in
          let r = put_next q.0 q.1 in
          let h = before_put l.output k (past first l.from) in
          let within = subst (λ z. Within (past first l.from) (Put l.output wants.0 ∷ z)) (sym r.2) r.1 in
          let up = up_listed net first pass l.from h l.output wants.0 within q.0 q.1 (passing q.0 q.1) in
          let sight = sight_at_put net first pass l.from h l.output wants.0 within q.0 q.1 (passing q.0 q.1) in
          let now : in_sight (last_input h) (past st l.from) ≡ true = sym (same_sight l.from q.0 q.1 r.0 (last_input h)) ∙ ap (in_sight (last_input h)) (sym r.2) ∙ sight in
          let i = into_passing l.from (last_input h) q.0 up.link q.1 (passing q.0 q.1) writer_goes up.linked in
          record {
            link = up.link;
            linked = up.linked;
            holds = record {
              into = i;
              writing = way.reached.waits l.from (last_input h) up.link up.linked i.plain_one writer_goes now;
              next_is = ap (tooks_on (last_input h)) r.2 ∙ r.0.tooks (last_input h) ∙ sym (took_there l.from (last_input h) up.link up.linked);
            };
            thin = up.thin;
          }

    -- A record that comes later

    pub record IsHigh (l : Link) (k : ℕ) : Type 0 where
      pub into : IsInto l
      pub not_taken : tooks st l ≤ k
      pub listed_there : k < puts_on l.output (past first l.from)

    module _ (l : Link) (k : ℕ) (x : IsHigh l k) where
      before : List Event
      before = before_put l.output k (past first l.from)

      there : (rec : List ℕ) × Within (past first l.from) (Put l.output rec ∷ before_put l.output k (past first l.from)) × (puts_on l.output (before_put l.output k (past first l.from)) ≡ k)
      there = put_there (past first l.from) l.output k x.listed_there

      -- whoever follows there has come to no more than what came before it
      was_before : (q : Strand) (e : strand_at net nothing_yet l.from ≡ Some q) (y : Following st l.from q e) → Within (before_put l.output k (past first l.from)) y.other
      was_before q e y =
          let a = same_puts l x.into q e y in
          let b = way.paced l.from l.output l (out_is l x.into) x.into.plain_one in
          let c = x.not_taken in
          let d = there.2 in
          before_it (past first l.from) y.other (before_put l.output k (past first l.from)) l.output there.0 y.within there.1 (omega (arith, a, b, c, d))

      pub high_puts : (rec : List ℕ) × Within (past first l.from) (Put l.output rec ∷ before_put l.output k (past first l.from)) × High l.from (written (before_put l.output k (past first l.from)))
      high_puts = (there.0, there.1, λ p e y. grown written more_written (before_put l.output k (past first l.from)) y.other (was_before p e y))

      -- so it goes on
      goes_there : (q : Strand) (e : strand_at net nothing_yet l.from ≡ Some q) → has_ended (past st l.from) ≡ false
      goes_there q e = by_test (has_ended (past st l.from)) refl
        where
          by_test : (b : Bool) → has_ended (past st l.from) ≡ b → has_ended (past st l.from) ≡ false
          by_test false is = is
          by_test true is =
              let y = follows_there l x.into q e in
              let whole_is : y.other ≡ past first l.from = is_all q (given l.from) (past first l.from) (pass l.from q e) y.other y.within (y.closed ∙ is) in
              let a = ap (puts_on l.output) whole_is in
              let b = same_puts l x.into q e y in
              let c = way.paced l.from l.output l (out_is l x.into) x.into.plain_one in
              let d = x.not_taken in
              let f = x.listed_there in
              absurd (omega (arith, a, b, c, d, f))

      pub high_up : ((p : Strand) → strand_at net nothing_yet l.from ≡ Some p → PassesOn p) → CameIn net first IsHigh (before_put l.output k (past first l.from)) l.from
      high_up passing =
          let q = producer l x.into in
          let h = before_put l.output k (past first l.from) in
          let up = up_listed net first pass l.from h l.output there.0 there.1 q.0 q.1 (passing q.0 q.1) in
          let y = follows_there l x.into q.0 q.1 in
          let less = grown (tooks_on (last_input h)) (λ e h'. more_tooks (last_input h) h' e) h y.other (was_before q.0 q.1 y) in
          let same_tooks = y.tooks (last_input h) in
          let taken = took_there l.from (last_input h) up.link up.linked in
          record {
            link = up.link;
            linked = up.linked;
            holds = record {
              into = into_passing l.from (last_input h) q.0 up.link q.1 (passing q.0 q.1) (goes_there q.0 q.1) up.linked;
              not_taken = omega (arith, less, same_tooks, taken);
              listed_there = up.holds;
            };
            thin = up.thin;
          }
