-- The reader isn't told of a record that stands in a stretch of the writer's text without the string that it awaits: it takes that as if it were.
use Rattle.std.proofs.Common.{◌≡◌, ◌<◌, ◌-◌, ℕ, suc, ◌+◌, Bool, true, false, ◌||◌, List, [], ◌∷◌, ◌++◌, length, take, drop, refl, sym, ◌∙◌, ap, subst, arith, Some, slice_get, slice_set}
use Rattle.std.proofs.Math.Bool.{or-false}
use Rattle.pipe_model.specs.declared.net.Net.{Net}
use Rattle.pipe_model.specs.declared.net.Strand.{Strand}
use Rattle.pipe_model.specs.declared.step.Entry.{Entry}
use Rattle.pipe_model.specs.declared.step.Seen.TheVariants.{Saw}
use Rattle.pipe_model.specs.declared.step.Want.TheVariants.{Read}
use Rattle.pipe_model.specs.Event.{Event}
use Rattle.pipe_model.specs.Search.{holds}
use Rattle.pipe_model.proofs.Lists.{get_set_same}
use Rattle.stage_steps.specs.Showings.{IsShowing, IsCutting}
use Rattle.stage_steps.specs.declared.reply.Reply.TheVariants.{Takes}
use Rattle.stage_steps.proofs.Aheads.{clear_front, clear_behind}
use Rattle.run_desk.specs.Relaying.{desk_relayed}
use Rattle.core_machine.specs.declared.actor.Actor.{Actor}
use Rattle.core_machine.specs.declared.showing.Pair.{Pair}
use Rattle.core_machine.specs.Actors.{HasSeen, IsClearFor, gone_on}
use Rattle.core_machine.specs.Floor.{FloorState, IsCovered}
use Rattle.core_machine.specs.Pairs.{AreRelaying, put_of, took_of}
use Rattle.core_machine.specs.Woken.{IsCovering}
use Rattle.core_machine.proofs.Rounds.{goes_round, on_covers, reader_there, set_back}

-- so many bytes of the text that the writer has ahead are clear for the reader, which looks at the next record where they are any; and they are none where it doesn't await anything
abbrev pub IsClearTo : {S : Type 0} → (S → Strand → List Event → Type 0) → (S → List ℕ) → List (Actor S) → ℕ → S → ℕ → Bool → Type 0
IsClearTo {S} stands ahead actors to source clear awaits =
    ((b : Actor S) → slice_get actors to ≡ Some b → IsClearFor stands b (ahead source) clear × (0 < clear → (b.asked ≡ Read 0) × (b.passes ≡ false))) × (awaits ≡ false → clear ≡ 0)

-- none are so at first
pub clear_none : {S : Type 0} (stands : S → Strand → List Event → Type 0) (ahead : S → List ℕ) (actors : List (Actor S)) (to : ℕ) (source : S) (awaits : Bool) → IsClearTo stands ahead actors to source 0 awaits
clear_none stands ahead actors to source awaits = (
  λ b at. ((λ some. absurd (let no : ⊥ = omega (arith, some) in no)), λ some. absurd (let no : ⊥ = omega (arith, some) in no)),
  λ no. refl,
)

-- those are so that were looked through once the reader took a record, where it awaits anything
pub clear_found : {S : Type 0} (stands : S → Strand → List Event → Type 0) (ahead : S → List ℕ) (actors : List (Actor S)) (to : ℕ) (source : S) (clear : ℕ) (awaits : Bool) (b a : Actor S) →
    slice_get actors to ≡ Some b → IsClearFor stands a (ahead source) clear → a.asked ≡ Read 0 → a.passes ≡ false → (awaits ≡ false → clear ≡ 0) →
    IsClearTo stands ahead (slice_set actors to a) to source clear awaits
clear_found {S} stands ahead actors to source clear awaits b a at is asks plain none = (
  λ other there.
      let one : Some a ≡ Some other = sym (get_set_same actors to a b at) ∙ there in
      let same : a ≡ other = cc in
      subst (λ (z : Actor S). IsClearFor stands z (ahead source) clear × (0 < clear → (z.asked ≡ Read 0) × (z.passes ≡ false))) same (is, λ some. (asks, plain)),
  none,
)

-- what the reader is given of a record
abbrev given : Bool → List ℕ → List ℕ
given true bytes = bytes
given false bytes = []

given_all : (looks : Bool) (bytes : List ℕ) → looks ≡ true → given looks bytes ≡ bytes
given_all true bytes is = refl
given_all false bytes is = let no : false ≡ true = is in cc

given_none : (looks : Bool) (bytes : List ℕ) → looks ≡ false → given looks bytes ≡ []
given_none true bytes is = let no : true ≡ false = is in cc
given_none false bytes is = refl

-- it doesn't hold the string, where the record is the front of a clear stretch
given_clear : (string text bytes : List ℕ) (clear : ℕ) → holds string (take clear text) ≡ false → length bytes < clear → bytes ≡ take (length bytes) text → (looks : Bool) → holds string (given looks bytes) ≡ false
given_clear string text bytes clear lacks less front true = ap (holds string) front ∙ clear_front string text clear (length bytes) (λ some. lacks) less
given_clear string text bytes clear lacks less front false = clear_front string text clear 0 (λ some. lacks) (omega (arith, less))

-- an actor that took a record and is as before is the same one
still : {S : Type 0} (b : Actor S) (stage : S) → b.stage ≡ Some stage → b.asked ≡ Read 0 → b.passes ≡ false → gone_on (Saw 0) stage (Read 0) false b ≡ b
still {S} b stage was asks plain = sym (
    ap (λ z. record { stage = z; asked = b.asked; looks = b.looks; saw_end = b.saw_end; passes = b.passes }) was
    ∙ ap (λ z. record { stage = Some stage; asked = z; looks = b.looks; saw_end = b.saw_end; passes = b.passes }) asks
    ∙ ap (λ z. record { stage = Some stage; asked = Read 0; looks = b.looks; saw_end = z; passes = b.passes }) (sym (or-false b.saw_end))
    ∙ ap (λ z. record { stage = Some stage; asked = Read 0; looks = b.looks; saw_end = b.saw_end || false; passes = z }) plain)

-- The writer showed a record of fewer bytes than are clear
module _ {S : Type 0} {stands : S → Strand → List Event → Type 0} {showing : S → List ℕ} {limit : ℕ} {p : Pair} {net : Net} {start : List Entry} {out : List ℕ}
    {floor : FloorState} {actors : List (Actor S)} {journal : List Entry} {source : S} {rounds : ℕ}
    (r : AreRelaying stands showing limit p net start out floor actors journal source rounds) (space : length journal + 2 < limit) (ahead : S → List ℕ) (next : S)
    (shows : IsShowing stands showing source next p.output true) (cuts : IsCutting ahead showing source next true) (clear : ℕ) (awaits : Bool)
    (is : IsClearTo stands ahead actors p.to source clear awaits) (less : length (showing next) < clear) where
  abbrev b : Actor S
  b = (reader_there r).0

  at : slice_get actors p.to ≡ Some b
  at = (reader_there r).1

  some : 0 < clear
  some = omega (arith, less)

  abbrev x : S
  x = ((is.0 b at).0 some).0

  was : b.stage ≡ Some x
  was = ((is.0 b at).0 some).2

  abbrev shown : List ℕ
  shown = given b.looks (showing next)

  all : b.looks ≡ true → shown ≡ showing next
  all = given_all b.looks (showing next)

  none : b.looks ≡ false → shown ≡ []
  none = given_none b.looks (showing next)

  seen : HasSeen stands x x 0 shown (Read 0) false Takes
  seen = let c = (is.0 b at).0 some in (refl, refl, refl, c.3 shown (given_clear c.1 (ahead source) (showing next) clear c.4 less cuts.0 b.looks))

  -- the sets that hold all that may go on hold them after the round
  pub clear_covers : IsCovered floor.net floor.desk floor.ready → IsCovering (desk_relayed floor.desk p.link) floor.ready
  clear_covers = on_covers r space next shows b at x x was (Read 0) false shown all none seen

  -- the two are as far as before, with three entries more
  pub clear_round : (floor' : FloorState) (journal' : List Entry) → floor'.net ≡ floor.net → floor'.desk ≡ desk_relayed floor.desk p.link → floor'.pool ≡ floor.pool → floor'.ready ≡ floor.ready →
      journal' ≡ ((journal ++ put_of p ∷ []) ++ took_of p ∷ []) ++ took_of p ∷ [] →
      AreRelaying stands showing limit p net start out floor' actors journal' next (rounds + 1)
  clear_round floor' journal' nets desks pools readies journals =
      goes_round r space next shows b at x x was (Read 0) false shown all none seen floor' actors journal' nets desks pools readies
      (sym (ap (λ z. slice_set actors p.to z) (still b x was ((is.0 b at).1 some).0 ((is.0 b at).1 some).1) ∙ set_back actors p.to b at)) journals

  -- and behind the record the rest of the stretch is clear
  pub clear_next : (left : ℕ) → left ≡ clear - suc (length (showing next)) → IsClearTo stands ahead actors p.to next left awaits
  clear_next left left_is = (
    λ reader there. (
      (λ more.
          let c = (is.0 reader there).0 some in
          let now : 0 < clear - suc (length (showing next)) = omega (arith, more, left_is) in
          let held : holds c.1 (take (clear - suc (length (showing next))) (drop (suc (length (showing next))) (ahead source))) ≡ false = clear_behind c.1 (ahead source) clear (length (showing next)) (λ any. c.4) less now in
          (c.0, c.1, c.2, c.3, ap (λ t. holds c.1 (take left t)) cuts.1 ∙ ap (λ n. holds c.1 (take n (drop (suc (length (showing next))) (ahead source)))) left_is ∙ held)),
      λ more. (is.0 reader there).1 some,
    ),
    λ no. (let zeros = is.1 no in omega (arith, zeros, left_is)),
  )
