-- The reply of a run, read off its strands from the last down, and the text of its console from the first on.
use Rattle.std.proofs.Common.{◌≡◌, ℕ, zero, suc, ◌+◌, ◌≤◌, ◌<◌, Bool, true, false, cond, List, [], ◌∷◌, ◌++◌, length, drop, refl, sym, ◌∙◌, ap, subst, arith, Some, None, slice_get, ℤ}
use Rattle.pipe_model.specs.declared.net.Net.{Net}
use Rattle.pipe_model.specs.declared.net.Strand.{Strand}
use Rattle.pipe_model.specs.Code.{worst_of}
use Rattle.pipe_model.specs.Event.{Event, has_ended, code_of}
use Rattle.pipe_model.specs.Next.{next}
use Rattle.pipe_model.specs.Reply.{WaitLine, reply, replied, console_part, console_from, code_from, waits_from}
use Rattle.pipe_model.specs.State.{State, Who, past}
use Rattle.pipe_model.specs.Table.{form}
use Rattle.pipe_model.specs.Shape.{Keeping}
use Rattle.pipe_model.specs.Shape.Keeping.{Nothing, Console, File}
use Rattle.stage_steps.specs.Coroutine.{kept_by}
use Rattle.pipe_model.specs.Form.{is_shown}
use Rattle.pipe_model.proofs.Lists.{at_some}
use Rattle.net_runs.specs.Kept.{keeping_of}

-- the first member that is left
pub drop_at : {X : Type 0} (xs : List X) (k : ℕ) (x : X) → slice_get xs k ≡ Some x → drop k xs ≡ x ∷ drop (suc k) xs
drop_at [] k x at = cc
drop_at (y ∷ ys) zero x at = ap (λ z. z ∷ ys) (let e : y ≡ x = cc in e)
drop_at (y ∷ ys) (suc k) x at = drop_at ys k x at

-- no member is left
pub drop_none : {X : Type 0} (xs : List X) → drop (length xs) xs ≡ []
drop_none [] = refl
drop_none (x ∷ xs) = drop_none xs

-- Strands from a number on

-- one more has ended
pub no_more_waits : (st : State) (s : Who) (ps : List Strand) (p : Strand) → slice_get ps s ≡ Some p → has_ended (past st s) ≡ true → waits_from st (suc s) (drop (suc s) ps) ≡ [] → waits_from st s (drop s ps) ≡ []
no_more_waits st s ps p at ended none =
    ap (waits_from st s) (drop_at ps s p at)
    ∙ ap (λ b. cond b (waits_from st (suc s) (drop (suc s) ps)) ((s, next p (past st s)) ∷ waits_from st (suc s) (drop (suc s) ps))) ended
    ∙ none

-- and its code is counted in
pub one_more_code : (st : State) (s : Who) (ps : List Strand) (p : Strand) → slice_get ps s ≡ Some p → code_from st s (drop s ps) ≡ worst_of (code_of (past st s)) (code_from st (suc s) (drop (suc s) ps))
one_more_code st s ps p at = ap (code_from st s) (drop_at ps s p at)

-- some strand waits
waits_some : (st : State) (s k : Who) (ps : List Strand) → k < length ps → has_ended (past st (s + k)) ≡ false → (first : WaitLine) × (rest : List WaitLine) × (waits_from st s ps ≡ first ∷ rest)
waits_some st s k [] lt waits = absurd (omega (arith, lt))
waits_some st s zero (p ∷ ps) lt waits =
    let here : has_ended (past st s) ≡ false = subst (λ z. has_ended (past st z) ≡ false) (let e : s + 0 ≡ s = omega arith in e) waits in
    ((s, next p (past st s)), waits_from st (suc s) ps, ap (λ b. cond b (waits_from st (suc s) ps) ((s, next p (past st s)) ∷ waits_from st (suc s) ps)) here)
waits_some st s (suc k) (p ∷ ps) lt waits =
    let rest = waits_some st (suc s) k ps (omega (arith, lt)) (subst (λ z. has_ended (past st z) ≡ false) (let e : s + suc k ≡ suc s + k = omega arith in e) waits) in
    go (has_ended (past st s)) refl rest
  where
    go : (b : Bool) → has_ended (past st s) ≡ b → (first : WaitLine) × (rest : List WaitLine) × (waits_from st (suc s) ps ≡ first ∷ rest) → (first : WaitLine) × (rest : List WaitLine) × (waits_from st s (p ∷ ps) ≡ first ∷ rest)
    go true e rest = (rest.0, rest.1, ap (λ b. cond b (waits_from st (suc s) ps) ((s, next p (past st s)) ∷ waits_from st (suc s) ps)) e ∙ rest.2)
    go false e rest = ((s, next p (past st s)), waits_from st (suc s) ps, ap (λ b. cond b (waits_from st (suc s) ps) ((s, next p (past st s)) ∷ waits_from st (suc s) ps)) e)

-- The reply

-- one that waits is told
pub reply_waits : (net : Net) (st : State) (s : Who) → s < length net.strands → has_ended (past st s) ≡ false → (first : WaitLine) × (rest : List WaitLine) × ((reply net st).waits ≡ first ∷ rest)
reply_waits net st s lt waits =
    let some = waits_some st 0 s net.strands lt (subst (λ z. has_ended (past st z) ≡ false) (let e : s ≡ 0 + s = omega arith in e) waits) in
    (some.0, some.1, ap (λ z. (replied st net.strands z).waits) some.2)

-- its console's text and, where all have ended, its files are those of the strands
console_told : (st : State) (ps : List Strand) (ws : List WaitLine) → (replied st ps ws).console ≡ console_from st 0 ps
console_told st ps [] = refl
console_told st ps (w ∷ ws) = refl

pub reply_console : (net : Net) (st : State) → (reply net st).console ≡ console_from st 0 net.strands
reply_console net st = console_told st net.strands (waits_from st 0 net.strands)

-- The console

-- what is for the console is what the stage keeps
shown_part : (keeping : Keeping) (h : List Event) → is_shown keeping ≡ true → console_part keeping h ≡ kept_by keeping h
shown_part Nothing h is = cc
shown_part Console h is = refl
shown_part (File name) h is = cc

pub kept_part : (p : Strand) (h : List Event) → is_shown (keeping_of p.kind) ≡ true → console_part (form p).keeping h ≡ kept_by (form p).keeping h
kept_part p h is = shown_part (keeping_of p.kind) h is

-- nothing else is for the console
none_shown : (keeping : Keeping) (h : List Event) → is_shown keeping ≡ false → console_part keeping h ≡ []
none_shown Nothing h other = refl
none_shown Console h other = cc
none_shown (File name) h other = refl

-- the console's text, with one strand more
pub console_more : (st : State) (k : Who) (ps : List Strand) (p : Strand) → slice_get ps k ≡ Some p → console_from st k (drop k ps) ≡ console_part (form p).keeping (past st k) ++ console_from st (suc k) (drop (suc k) ps)
console_more st k ps p at = ap (console_from st k) (drop_at ps k p at)

pub console_less : (st : State) (k : Who) (ps : List Strand) (p : Strand) → slice_get ps k ≡ Some p → is_shown (keeping_of p.kind) ≡ false → console_from st k (drop k ps) ≡ console_from st (suc k) (drop (suc k) ps)
console_less st k ps p at other = console_more st k ps p at ∙ ap (λ z. z ++ console_from st (suc k) (drop (suc k) ps)) (none_shown (keeping_of p.kind) (past st k) other)

-- One strand more, from the last down

-- the strand has told its end
ended_some : (b : Bool) (code end : ℤ) → cond b (Some code) None ≡ Some end → (b ≡ true) × (code ≡ end)
ended_some true code end is = (refl, (let e : code ≡ end = cc in e))
ended_some false code end is = cc

pub ended_none : (b : Bool) (code : ℤ) → cond b (Some code) None ≡ None → b ≡ false
ended_none true code is = cc
ended_none false code is = refl

module _ (st : State) (s t : Who) (ps : List Strand) (after : t ≡ suc s) (within : t ≤ length ps) (end : ℤ) (ended : cond (has_ended (past st s)) (Some (code_of (past st s))) None ≡ Some end) where
  there : (p : Strand) × (slice_get ps s ≡ Some p)
  there = at_some ps s (omega (arith, after, within))

  pub down_none : waits_from st t (drop t ps) ≡ [] → waits_from st s (drop s ps) ≡ []
  down_none none =
      no_more_waits st s ps there.0 there.1 (ended_some (has_ended (past st s)) (code_of (past st s)) end ended).0
      (subst (λ z. waits_from st z (drop z ps) ≡ []) after none)

  pub down_code : (code : ℤ) → code ≡ code_from st t (drop t ps) → worst_of end code ≡ code_from st s (drop s ps)
  down_code code is =
      ap (worst_of end) is
      ∙ ap (λ z. worst_of z (code_from st t (drop t ps))) (sym (ended_some (has_ended (past st s)) (code_of (past st s)) end ended).1)
      ∙ ap (λ z. worst_of (code_of (past st s)) (code_from st z (drop z ps))) after
      ∙ sym (one_more_code st s ps there.0 there.1)
