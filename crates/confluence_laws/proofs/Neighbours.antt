-- Of two neighbours on a straight line: how records and ends go from the one to the other.
use Rattle.std.proofs.Common.{◌≡◌, ◌≢◌, ◌⊎◌, inl, inr, ℕ, suc, ◌<◌, Bool, true, false, cond, ◌==◌, List, [], ◌∷◌, ◌++◌, length, refl, sym, ◌∙◌, ap, subst, arith, Some}
use Rattle.pipe_model.specs.declared.net.Strand.{Strand}
use Rattle.pipe_model.specs.Event.{Event, one_more, tooks_on, records_on, taken_from, last_seen_on}
use Rattle.pipe_model.specs.Event.Event.{Took, Refused}
use Rattle.pipe_model.specs.State.{same}
use Rattle.pipe_model.specs.Licence.{Sight, offered}
use Rattle.pipe_model.proofs.Lists.{length_more}
use Rattle.confluence_laws.proofs.StraightRows.{Role}
use Rattle.confluence_laws.proofs.StraightRows.Role.{Selects}
use Rattle.confluence_laws.proofs.Modes.{Mode, Stands, Told, then_in, has_passed, want_of, is_over as is_over_mode}
use Rattle.confluence_laws.proofs.Modes.Mode.{Begins, Commits, Reads, Offers, Holds, Stops, Over}

-- Two neighbours

-- it wants to write the record
abbrev pub IsOffering : Mode → List ℕ → Type 0
IsOffering from rec = (rest : List (List ℕ)) × (from ≡ Offers rec rest)

-- while all that was put was taken: whoever has a record in sight has it from one that offers it, and whoever saw the end has it from one that has ended
abbrev pub Suits : Mode → Mode → Type 0
Suits Begins from = Unit {0}
Suits Commits from = Unit {0}
Suits Reads from = Unit {0}
Suits (Offers rec rest) from = IsOffering from rec
Suits (Holds rec) from = IsOffering from rec
Suits Stops from = from ≡ Over
Suits Over from = from ≡ Over

-- a record was taken that its producer has still to put
abbrev pub IsAhead : Mode → Mode → List (List ℕ) → List (List ℕ) → Type 0
IsAhead from to put took = (rec : List ℕ) × (rest : List (List ℕ)) × (from ≡ Offers rec rest) × (to ≡ Reads) × (took ≡ put ++ rec ∷ [])

-- the records put on a link and taken from it, by where its two ends stand
abbrev pub IsPaced : Mode → Mode → List (List ℕ) → List (List ℕ) → Type 0
IsPaced from to put took = ((put ≡ took) × Suits to from) ⊎ IsAhead from to put took

-- where as much was taken as was put, it is the same
paced_level : (from to : Mode) (put took : List (List ℕ)) → IsPaced from to put took → length put ≡ length took → (put ≡ took) × Suits to from
paced_level from to put took (inl x) same = x
paced_level from to put took (inr x) same = absurd (let e : length took ≡ suc (length put) = ap length x.4 ∙ length_more put x.0 in omega (arith, e, same))

-- where less was put, the producer has still to put it
paced_ahead : (from to : Mode) (put took : List (List ℕ)) → IsPaced from to put took → length put < length took → IsAhead from to put took
paced_ahead from to put took (inl x) less = absurd (let e : length put ≡ length took = ap length x.0 in omega (arith, e, less))
paced_ahead from to put took (inr x) less = x

-- a producer that neither offers a record nor has ended may stand anywhere
suits_any : (from from' to : Mode) → ((rec : List ℕ) (rest : List (List ℕ)) → from ≢ Offers rec rest) → from ≢ Over → Suits to from → Suits to from'
suits_any from from' Begins none going suits = tt
suits_any from from' Commits none going suits = tt
suits_any from from' Reads none going suits = tt
suits_any from from' (Offers rec rest) none going suits = absurd (none rec suits.0 suits.1)
suits_any from from' (Holds rec) none going suits = absurd (none rec suits.0 suits.1)
suits_any from from' Stops none going suits = absurd (going suits)
suits_any from from' Over none going suits = absurd (going suits)

-- and its link is paced
paced_any : (from from' to : Mode) (put took : List (List ℕ)) → ((rec : List ℕ) (rest : List (List ℕ)) → from ≢ Offers rec rest) → from ≢ Over → IsPaced from to put took → IsPaced from' to put took
paced_any from from' to put took none going (inl x) = inl (x.0, suits_any from from' to none going x.1)
paced_any from from' to put took none going (inr x) = absurd (none x.0 x.1 x.2)

-- the producer goes on
pub put_on : (v : Sight) (e : Event) (h : List Event) (r : Role) (from to : Mode) (took : List (List ℕ)) → Told from v e → (v.can_put 0 ≡ true → length (records_on 0 h) < length took) →
    IsPaced from to (records_on 0 h) took → IsPaced (then_in from r e) to (records_on 0 (e ∷ h)) took
put_on v e h r Begins to took told put paced = subst (λ z. IsPaced Commits to (records_on 0 (z ∷ h)) took) (sym told) (paced_any Begins Commits to (records_on 0 h) took (λ rec rest d. cc) (λ d. cc) paced)
put_on v e h r Commits to took told put paced = subst (λ z. IsPaced (then_in Commits r e) to (records_on 0 (z ∷ h)) took) (sym told) (paced_any Commits (then_in Commits r e) to (records_on 0 h) took (λ rec rest d. cc) (λ d. cc) paced)
put_on v e h r Reads to took (inl told) put paced = subst (λ z. IsPaced (then_in Reads r e) to (records_on 0 (z ∷ h)) took) (sym told.1) (paced_any Reads (then_in Reads r e) to (records_on 0 h) took (λ rec rest d. cc) (λ d. cc) paced)
put_on v e h r Reads to took (inr told) put paced = subst (λ z. IsPaced (then_in Reads r e) to (records_on 0 (z ∷ h)) took) (sym told.0) (paced_any Reads (then_in Reads r e) to (records_on 0 h) took (λ rec rest d. cc) (λ d. cc) paced)
put_on v e h r (Offers rec rest) to took told put paced =
    let x = paced_ahead (Offers rec rest) to (records_on 0 h) took paced (put told.1) in
    let it : x.0 ≡ rec = (let d = x.2 in cc) in
    subst (λ z. IsPaced (then_in (Offers rec rest) r e) to (records_on 0 (z ∷ h)) took) (sym told.0) (inl (ap (λ z. records_on 0 h ++ z ∷ []) (sym it) ∙ sym x.4, subst (λ z. Suits z (then_in (Offers rec rest) r e)) (sym x.3) tt))
put_on v e h r (Holds rec) to took told put paced = subst (λ z. IsPaced Reads to (records_on 0 (z ∷ h)) took) (sym told) (paced_any (Holds rec) Reads to (records_on 0 h) took (λ rec rest d. cc) (λ d. cc) paced)
put_on v e h r Stops to took told put paced = subst (λ z. IsPaced Over to (records_on 0 (z ∷ h)) took) (sym told) (paced_any Stops Over to (records_on 0 h) took (λ rec rest d. cc) (λ d. cc) paced)
put_on v e h r Over to took told put paced = absurd told

-- what a consumer sees on the link from a producer that stands so
pub record IsFed (v : Sight) (from : Mode) (put took : List (List ℕ)) : Type 0 where
  pub hand : (rec : List ℕ) → v.hand 0 ≡ Some rec → (length put ≡ length took) × IsOffering from rec
  pub over : v.over 0 ≡ true → (length put ≡ length took) × (from ≡ Over)

-- a record that is offered comes in sight
suits_seen : (from : Mode) (rec : List ℕ) (b : Bool) → IsOffering from rec → Suits (has_passed b rec) from
suits_seen from rec true x = x
suits_seen from rec false x = x

-- the consumer goes on
pub take_on : (v : Sight) (e : Event) (h : List Event) (test : List ℕ → Bool) (from to : Mode) (put : List (List ℕ)) → Told to v e → ((rec : List ℕ) → to ≡ Holds rec → last_seen_on 0 h ≡ rec) → IsFed v from put (taken_from 0 h) →
    IsPaced from to put (taken_from 0 h) → IsPaced from (then_in to (Selects test) e) put (taken_from 0 (e ∷ h))
take_on v e h test from Begins put told seen fed (inl x) = subst (λ z. IsPaced from Commits put (taken_from 0 (z ∷ h))) (sym told) (inl (x.0, tt))
take_on v e h test from Begins put told seen fed (inr x) = (let d = x.3 in cc)
take_on v e h test from Commits put told seen fed (inl x) = subst (λ z. IsPaced from Reads put (taken_from 0 (z ∷ h))) (sym told) (inl (x.0, tt))
take_on v e h test from Commits put told seen fed (inr x) = (let d = x.3 in cc)
take_on v e h test from Reads put (inl told) seen fed paced =
    let f = fed.hand told.0 told.2 in
    subst (λ z. IsPaced from (then_in Reads (Selects test) z) put (taken_from 0 (z ∷ h))) (sym told.1) (inl ((paced_level from Reads put (taken_from 0 h) paced f.0).0, suits_seen from told.0 (test told.0) f.1))
take_on v e h test from Reads put (inr told) seen fed paced =
    let f = fed.over told.1 in
    subst (λ z. IsPaced from (then_in Reads (Selects test) z) put (taken_from 0 (z ∷ h))) (sym told.0) (inl ((paced_level from Reads put (taken_from 0 h) paced f.0).0, f.1))
take_on v e h test from (Offers rec rest) put told seen fed (inl x) = subst (λ z. IsPaced from (Holds rec) put (taken_from 0 (z ∷ h))) (sym told.0) (inl x)
take_on v e h test from (Offers rec rest) put told seen fed (inr x) = (let d = x.3 in cc)
take_on v e h test from (Holds rec) put told seen fed (inl x) = subst (λ z. IsPaced from Reads put (taken_from 0 (z ∷ h))) (sym told) (inr (rec, x.1.0, x.1.1, refl, ap (λ z. z ++ last_seen_on 0 h ∷ []) (sym x.0) ∙ ap (λ z. put ++ z ∷ []) (seen rec refl)))
take_on v e h test from (Holds rec) put told seen fed (inr x) = (let d = x.3 in cc)
take_on v e h test from Stops put told seen fed (inl x) = subst (λ z. IsPaced from Over put (taken_from 0 (z ∷ h))) (sym told) (inl x)
take_on v e h test from Stops put told seen fed (inr x) = (let d = x.3 in cc)
take_on v e h test from Over put told seen fed paced = absurd told

-- who holds a record has seen it
pub held_seen : (p : Strand) (test : List ℕ → Bool) (h : List Event) (m : Mode) → Stands p (Selects test) m h → (rec : List ℕ) → m ≡ Holds rec → last_seen_on 0 h ≡ rec
held_seen p test h m at rec is = (subst (λ (z : Mode). Stands p (Selects test) z h) is at).flows.1

-- the records taken are as many as the takings
pub took_count : (i : ℕ) (h : List Event) → length (taken_from i h) ≡ tooks_on i h
took_count i [] = refl
took_count i (Took j ∷ h) = by_test (j == i) (took_count i h)
  where
    by_test : (b : Bool) → length (taken_from i h) ≡ tooks_on i h → length (cond b (taken_from i h ++ last_seen_on i h ∷ []) (taken_from i h)) ≡ one_more b (tooks_on i h)
    by_test true e = length_more (taken_from i h) (last_seen_on i h) ∙ ap suc e
    by_test false e = e
took_count i (_ ∷ h) = took_count i h

-- who shows a record offers it
pub offers_it : (m : Mode) (rec : List ℕ) → offered 0 (want_of m) ≡ Some rec → IsOffering m rec
offers_it (Offers rec' rest) rec e = (rest, ap (λ z. Offers z rest) (let z : rec' ≡ rec = cc in z))
offers_it Begins rec e = cc
offers_it Commits rec e = cc
offers_it Reads rec e = cc
offers_it (Holds rec') rec e = cc
offers_it Stops rec e = cc
offers_it Over rec e = cc

-- who has ended
pub over_mode : (m : Mode) → is_over_mode m ≡ true → m ≡ Over
over_mode Over e = refl
over_mode Begins e = cc
over_mode Commits e = cc
over_mode Reads e = cc
over_mode (Offers rec rest) e = cc
over_mode (Holds rec) e = cc
over_mode Stops e = cc

-- who takes from one that offers hasn't ended
pub offers_going : (from to : Mode) (put took : List (List ℕ)) (rec : List ℕ) (rest : List (List ℕ)) → from ≡ Offers rec rest → IsPaced from to put took → is_over_mode to ≡ false
offers_going from Over put took rec rest is (inl x) = (let d = x.1 in cc)
offers_going from Over put took rec rest is (inr x) = (let d = x.3 in cc)
offers_going from Begins put took rec rest is paced = refl
offers_going from Commits put took rec rest is paced = refl
offers_going from Reads put took rec rest is paced = refl
offers_going from (Offers rec' rest') put took rec rest is paced = refl
offers_going from (Holds rec') put took rec rest is paced = refl
offers_going from Stops put took rec rest is paced = refl

-- no strand is told of a refusal
pub told_no_refusal : (m : Mode) (v : Sight) (o : ℕ) → Told m v (Refused o) → ⊥
told_no_refusal Begins v o told = cc
told_no_refusal Commits v o told = cc
told_no_refusal Reads v o (inl told) = (let d = told.1 in cc)
told_no_refusal Reads v o (inr told) = (let d = told.0 in cc)
told_no_refusal (Offers rec rest) v o told = (let d = told.0 in cc)
told_no_refusal (Holds rec) v o told = cc
told_no_refusal Stops v o told = cc
told_no_refusal Over v o told = told

-- equal ends are paced alike
pub paced_same : {from from' to to' : Mode} {h h' k k' : List Event} → from' ≡ from → to' ≡ to → h' ≡ h → k' ≡ k → IsPaced from to (records_on 0 h) (taken_from 0 k) → IsPaced from' to' (records_on 0 h') (taken_from 0 k')
paced_same {from} {from'} {to} {to'} {h} {h'} {k} {k'} a b c d paced =
    subst (λ z. IsPaced z to' (records_on 0 h') (taken_from 0 k')) (sym a) (subst (λ z. IsPaced from z (records_on 0 h') (taken_from 0 k')) (sym b) (subst (λ z. IsPaced from to (records_on 0 z) (taken_from 0 k')) (sym c) (subst (λ z. IsPaced from to (records_on 0 h) (taken_from 0 z)) (sym d) paced)))
