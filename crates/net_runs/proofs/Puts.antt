-- The files that a run is to replace, in the order of their names, and how far they were replaced.
use Rattle.std.proofs.Common.{◌≡◌, ◌⊎◌, inl, inr, ℕ, suc, ◌+◌, ◌<◌, ◌≤◌, Bool, true, false, cond, not, ltb, zero, List, [], ◌∷◌, ◌++◌, length, map, drop, refl, sym, ◌∙◌, ap, subst, arith, add-one, Option, Some, None, ℤ, pos}
use Rattle.std.proofs.lemmas.Bool.{ltb-false}
use Rattle.std.proofs.lemmas.List.{map-append}
use Rattle.std.proofs.lemmas.List.Edits.{insert_end}
use Rattle.std.proofs.lemmas.List.Elements.{All-cons, All-contains, All-head, All-nil, All-tail, Contains-append_right}
use Rattle.std.specs.List.{All, Contains, insert, position, position_or_len}
use Rattle.std.specs.Option.{option_map_or}
use Rattle.outside.specs.declared.shelf.Replaced.{Replaced}
use Rattle.outside.specs.declared.shelf.Replaced.TheVariants.{Stored}
use Rattle.outside.specs.Files.{Files}
use Rattle.outside.specs.Shelf.{Replaces}
use Rattle.pipe_model.specs.declared.kind.Kind.{Kind}
use Rattle.pipe_model.specs.declared.kind.Kind.TheVariants.{FileIn, FileOut}
use Rattle.pipe_model.specs.declared.net.Net.{Net}
use Rattle.pipe_model.specs.declared.net.Strand.{Strand}
use Rattle.pipe_model.specs.Event.{Event, has_seen_end, taken_from}
use Rattle.pipe_model.specs.Form.{is_filed}
use Rattle.pipe_model.specs.Keys.{is_less}
use Rattle.pipe_model.specs.Records.{text}
use Rattle.pipe_model.specs.Reply.{FileText, WaitLine, code_from, file_part, files_from, replied, reply, waits_from}
use Rattle.pipe_model.specs.Shape.{Keeping}
use Rattle.pipe_model.specs.Shape.Keeping.{Nothing, Console, File}
use Rattle.pipe_model.specs.State.{State, Who, nothing_yet, past, strand_at}
use Rattle.pipe_model.specs.Table.{form}
use Rattle.pipe_model.proofs.Lists.{at_some}
use Rattle.stage_steps.specs.Coroutine.{kept_by}
use Rattle.core_machine.specs.Machine.{Machine, state_of}
use Rattle.net_runs.specs.declared.replace.Put.{Put}
use Rattle.call_meaning.specs.declared.status.Outcome.{Outcome}
use Rattle.call_meaning.specs.declared.status.Outcome.TheVariants.{ShelfFault, Spent, Stalled}
use Rattle.net_runs.specs.Kept.{keeping_of}
use Rattle.call_meaning.specs.Devices.{Store}
use Rattle.call_meaning.specs.Effects.{AreReplaced, Effect, in_order, in_order_after, inserted}
use Rattle.call_meaning.specs.Meaning.{outcome_by, outcome_of}
use Rattle.call_meaning.specs.Status.{text_of}
use Rattle.net_runs.specs.Puts.{ArePuts, AreStored, AreStoredPart, IsPut, StopsStoring, file_at, put_text, with_put}
use Rattle.net_runs.specs.Ran.{EndsAs, run_effect}
use Rattle.net_runs.specs.Ran.EndsAs.{completes, spends}
use Rattle.call_streams.proofs.Orders.{order_append}
use Rattle.call_streams.proofs.Replacements.{replaced_more, replaced_part}
use Rattle.net_runs.proofs.RunEffects.{unspent_effect}
use Rattle.net_runs.proofs.Runs.{drop_at, drop_none}

-- One more file

-- the file has a greater name
abbrev pub is_behind : List ℕ → Put → Bool
is_behind name other = is_less name other.name

-- it is put before the first one of a greater name, or at the end
with_put_at : (put : Put) (puts : List Put) → with_put put puts ≡ insert puts (position_or_len (is_behind put.name) puts) put
with_put_at put [] = refl
with_put_at put (other ∷ rest) = by (is_less put.name other.name) (with_put_at put rest)
  where
    by : (t : Bool) → with_put put rest ≡ insert rest (position_or_len (is_behind put.name) rest) put →
        cond t (put ∷ (other ∷ rest)) (other ∷ with_put put rest) ≡ insert (other ∷ rest) (cond (not t) (1 + position_or_len (is_behind put.name) rest) 0) put
    by true further = refl
    by false further =
        ap (λ z. other ∷ z) further
        ∙ ap (λ n. insert (other ∷ rest) n put) (let e : suc (position_or_len (is_behind put.name) rest) ≡ 1 + position_or_len (is_behind put.name) rest = omega arith in e)

position_len : (p : Put → Bool) (puts : List Put) → position_or_len p puts ≤ length puts
position_len p [] = omega arith
position_len p (put ∷ puts) = by (p put) (position_len p puts)
  where
    by : (t : Bool) → position_or_len p puts ≤ length puts → cond (not t) (1 + position_or_len p puts) 0 ≤ length (put ∷ puts)
    by true further = omega arith
    by false further = omega (arith, further)

-- where there is one
pub with_put_before : (put : Put) (puts : List Put) (place : ℕ) → position (is_behind put.name) puts ≡ Some place → with_put put puts ≡ insert puts place put
with_put_before put puts place found = by (ltb (position_or_len (is_behind put.name) puts) (length puts)) found
  where
    by : (t : Bool) → cond t (Some (position_or_len (is_behind put.name) puts)) None ≡ Some place → with_put put puts ≡ insert puts place put
    by true is = with_put_at put puts ∙ ap (λ n. insert puts n put) (let e : position_or_len (is_behind put.name) puts ≡ place = cc in e)
    by false is = cc

-- where there is none
pub with_put_last : (put : Put) (puts : List Put) → position (is_behind put.name) puts ≡ None → with_put put puts ≡ puts ++ put ∷ []
with_put_last put puts none = by (ltb (position_or_len (is_behind put.name) puts) (length puts)) refl none
  where
    by : (t : Bool) → ltb (position_or_len (is_behind put.name) puts) (length puts) ≡ t → cond t (Some (position_or_len (is_behind put.name) puts)) None ≡ None → with_put put puts ≡ puts ++ put ∷ []
    by true is none = cc
    by false is none =
        let within = position_len (is_behind put.name) puts in
        let past = ltb-false (position_or_len (is_behind put.name) puts) (length puts) is in
        with_put_at put puts
        ∙ ap (λ n. insert puts n put) (let e : position_or_len (is_behind put.name) puts ≡ length puts = omega (arith, within, past) in e)
        ∙ insert_end puts put

module _ (core : Machine) where
  abbrev texts : List Put → List FileText
  texts puts = map (put_text core) puts

  -- so its text comes into the order of the texts
  pub texts_with_put : (put : Put) (puts : List Put) → texts (with_put put puts) ≡ inserted (put_text core put) (texts puts)
  texts_with_put put [] = refl
  texts_with_put put (other ∷ rest) = by (is_less put.name other.name) (texts_with_put put rest)
    where
      by : (t : Bool) → map (put_text core) (with_put put rest) ≡ inserted (put_text core put) (map (put_text core) rest) →
          map (put_text core) (cond t (put ∷ (other ∷ rest)) (other ∷ with_put put rest))
          ≡ cond t (put_text core put ∷ (put_text core other ∷ map (put_text core) rest)) (put_text core other ∷ inserted (put_text core put) (map (put_text core) rest))
      by true further = refl
      by false further = ap (λ z. put_text core other ∷ z) further

  pub all_with_put : (put : Put) (puts : List Put) → IsPut core put → All (IsPut core) puts → All (IsPut core) (with_put put puts)
  all_with_put put [] one all = All-cons (IsPut core) put [] one (All-nil (IsPut core))
  all_with_put put (other ∷ rest) one all = by (is_less put.name other.name) (all_with_put put rest one (All-tail (IsPut core) other rest all))
    where
      by : (t : Bool) → All (IsPut core) (with_put put rest) → All (IsPut core) (cond t (put ∷ (other ∷ rest)) (other ∷ with_put put rest))
      by true further = All-cons (IsPut core) put (other ∷ rest) one all
      by false further = All-cons (IsPut core) other (with_put put rest) (All-head (IsPut core) other rest all) further

-- The text of a file

-- what a stage that keeps a file keeps is the text of what it took
filed_text : (keeping : Keeping) (h : List Event) → is_filed keeping ≡ true → kept_by keeping h ≡ text (taken_from 0 h)
filed_text Nothing h is = cc
filed_text Console h is = cc
filed_text (File name) h is = refl

pub kept_text : (core : Machine) (put : Put) → IsPut core put → (kept : List ℕ) → ((p : Strand) → strand_at core.net nothing_yet put.strand ≡ Some p → kept ≡ kept_by (form p).keeping (past (state_of core) put.strand)) →
    kept ≡ text (taken_from 0 (past (state_of core) put.strand))
kept_text core put is kept keeps =
    let at = at_some core.net.strands put.strand is.strand in
    keeps at.0 at.1 ∙ filed_text (form at.0).keeping (past (state_of core) put.strand) (is.kept at.0 at.1)

-- The file of a strand

-- only a `>` keeps a file
no_part : (kind : Kind) (h : List Event) → ((name : List ℕ) → kind ≡ FileOut name → ⊥) → file_part (keeping_of kind) h ≡ []
no_part (FileOut name) h other = absurd (other name refl)
no_part (FileIn name None) h other = refl
no_part (FileIn name (Some bytes)) h other = refl
no_part _ h other = refl

module _ (core : Machine) (s : Who) (p : Strand) (at : strand_at core.net nothing_yet s ≡ Some p) where
  file_by : file_at core s ≡ file_part (keeping_of p.kind) (past (state_of core) s)
  file_by = ap (λ (o : Option Strand). option_map_or (λ (q : Strand). file_part (form q).keeping (past (state_of core) s)) o []) at

  -- a stage of another kind keeps none
  pub file_other : ((name : List ℕ) → p.kind ≡ FileOut name → ⊥) → file_at core s ≡ []
  file_other other = file_by ∙ no_part p.kind (past (state_of core) s) other

  module _ (name : List ℕ) (is : p.kind ≡ FileOut name) where
    file_out : file_at core s ≡ cond (has_seen_end 0 (past (state_of core) s)) ((name, text (taken_from 0 (past (state_of core) s))) ∷ []) []
    file_out = file_by ∙ ap (λ kind. file_part (keeping_of kind) (past (state_of core) s)) is

    -- nor does one that hasn't seen the end of its input
    pub file_unseen : has_seen_end 0 (past (state_of core) s) ≡ false → file_at core s ≡ []
    file_unseen unseen = file_out ∙ ap (λ b. cond b ((name, text (taken_from 0 (past (state_of core) s))) ∷ []) []) unseen

    file_seen : has_seen_end 0 (past (state_of core) s) ≡ true → file_at core s ≡ (name, text (taken_from 0 (past (state_of core) s))) ∷ []
    file_seen seen = file_out ∙ ap (λ b. cond b ((name, text (taken_from 0 (past (state_of core) s))) ∷ []) []) seen

    -- one that has does
    module _ (put : Put) (put_is : put ≡ record { name = name; strand = s; fault = text_of (ShelfFault name) }) where
      pub new_put : s < length core.net.strands → IsPut core put
      new_put lt = subst (IsPut core) (sym put_is) (record {
        strand = lt;
        kept = λ q there. (let same : p ≡ q = (let e : Some p ≡ Some q = sym at ∙ there in cc) in subst (λ (x : Strand). is_filed (keeping_of x.kind) ≡ true) same (ap (λ kind. is_filed (keeping_of kind)) is));
        fault = refl;
      })

      pub texts_more : has_seen_end 0 (past (state_of core) s) ≡ true → (puts : List Put) → map (put_text core) (with_put put puts) ≡ in_order_after (map (put_text core) puts) (file_at core s)
      texts_more seen puts =
          texts_with_put core put puts
          ∙ ap (λ (x : Put). inserted (put_text core x) (map (put_text core) puts)) put_is
          ∙ ap (in_order_after (map (put_text core) puts)) (sym (file_seen seen))

-- Along the strands

module _ (core : Machine) where
  -- the files of the strands from a number on
  abbrev pub files_left : Who → List FileText
  files_left s = files_from (state_of core) s (drop s core.net.strands)

  pub order_more : (s : Who) → s < length core.net.strands → (before after : List FileText) → after ≡ in_order_after before (file_at core s) → in_order_after after (files_left (s + 1)) ≡ in_order_after before (files_left s)
  order_more s lt before after is =
      let there = at_some core.net.strands s lt in
      ap (λ z. in_order_after z (files_left (s + 1))) is
      ∙ sym (order_append before (file_at core s) (files_left (s + 1)))
      ∙ ap (λ n. in_order_after before (file_at core s ++ files_from (state_of core) n (drop n core.net.strands))) (add-one s)
      ∙ ap (λ z. in_order_after before (z ++ files_from (state_of core) (suc s) (drop (suc s) core.net.strands))) (file_by core s there.0 there.1)
      ∙ ap (λ z. in_order_after before (files_from (state_of core) s z)) (sym (drop_at core.net.strands s there.0 there.1))

  -- none are left
  pub order_end : (s : Who) → s ≡ length core.net.strands → (before : List FileText) → in_order_after before (files_left s) ≡ before
  order_end s is before =
      ap (λ n. in_order_after before (files_from (state_of core) n (drop n core.net.strands))) is
      ∙ ap (λ z. in_order_after before (files_from (state_of core) (length core.net.strands) z)) (drop_none core.net.strands)

-- The files of a run

-- none where a strand waits
stalled_none : (net : Net) (st : State) (lines : List ℕ) (ws : List WaitLine) → Stalled lines ≡ outcome_of net (replied st net.strands ws) → (replied st net.strands ws).files ≡ []
stalled_none net st lines (w ∷ ws) is = refl
stalled_none net st lines [] is = absurd (by (code_from st 0 net.strands) is)
  where
    by : (code : ℤ) → Stalled lines ≡ outcome_by net [] code → ⊥
    by (pos zero) is = cc
    by _ is = cc

-- else those of the strands
ended_all : (net : Net) (st : State) (ws : List WaitLine) → ((lines : List ℕ) → outcome_of net (replied st net.strands ws) ≡ Stalled lines → ⊥) → (replied st net.strands ws).files ≡ files_from st 0 net.strands
ended_all net st [] ended = refl
ended_all net st (w ∷ ws) ended = absurd (ended _ refl)

module _ (core : Machine) (steps : ℕ) where
  stalled_files : (lines : List ℕ) → EndsAs steps core (Stalled lines) → (reply core.net (state_of core)).files ≡ []
  stalled_files lines (completes stopped of) = stalled_none core.net (state_of core) lines (waits_from (state_of core) 0 core.net.strands) of
  stalled_files lines (spends is full more) = cc

  no_puts : (outcome : Outcome) (puts : List Put) → (run_effect core outcome).files ≡ [] → puts ≡ [] → ArePuts core (run_effect core outcome).files puts
  no_puts outcome puts is none =
      subst (λ fs. ArePuts core fs puts) (sym is)
      (subst (λ ps. ArePuts core [] ps) (sym none) (record { each = All-nil (IsPut core); files_are = refl }))

  -- or where too few steps are allowed
  pub early_puts : (outcome : Outcome) (puts : List Put) → EndsAs steps core outcome → ((lines : List ℕ) × (outcome ≡ Stalled lines)) ⊎ ((spent : ℕ) × (outcome ≡ Spent spent)) → puts ≡ [] →
      ArePuts core (run_effect core outcome).files puts
  early_puts outcome puts ends (inl stalled) none =
      no_puts outcome puts (ap (λ o. (run_effect core o).files) stalled.1 ∙ ap in_order (stalled_files stalled.0 (subst (EndsAs steps core) stalled.1 ends))) none
  early_puts outcome puts ends (inr spent) none = no_puts outcome puts (ap (λ o. (run_effect core o).files) spent.1) none

  pub ended_puts : (outcome : Outcome) (puts : List Put) → EndsAs steps core outcome → ((lines : List ℕ) → outcome ≡ Stalled lines → ⊥) → ((spent : ℕ) → outcome ≡ Spent spent → ⊥) → All (IsPut core) puts →
      map (put_text core) puts ≡ in_order (files_from (state_of core) 0 core.net.strands) → ArePuts core (run_effect core outcome).files puts
  ended_puts outcome puts (completes stopped of) ended unspent each texts = record {
    each = each;
    files_are =
        texts
        ∙ ap in_order (sym (ended_all core.net (state_of core) (waits_from (state_of core) 0 core.net.strands) (λ lines is. ended lines (of ∙ is))))
        ∙ ap (λ (effect : Effect). effect.files) (sym (unspent_effect core outcome unspent));
  }
  ended_puts outcome puts (spends is full more) ended unspent each texts = absurd (unspent steps is)

-- Their replacement

-- no file is left
pub none_left : (puts : List Put) → length puts ≡ 0 → puts ≡ []
none_left [] is = refl
none_left (put ∷ puts) is = absurd (omega (arith, is))

-- one more was replaced
pub stored_more : (core : Machine) (puts done later : List Put) (put : Put) → done ++ put ∷ later ≡ puts → All (IsPut core) puts → (kept : List ℕ) →
    ((p : Strand) → strand_at core.net nothing_yet put.strand ≡ Some p → kept ≡ kept_by (form p).keeping (past (state_of core) put.strand)) → (old now new : Option Files) →
    AreReplaced (map (put_text core) done) old now → Replaces now new put.name kept Stored → AreReplaced (map (put_text core) (done ++ put ∷ [])) old new
stored_more core puts done later put parts each kept keeps old now new replaced stores =
    let one : IsPut core put = All-contains (IsPut core) puts put each (subst (λ z. Contains z put) parts (Contains-append_right done (put ∷ later) put (0, omega arith, refl))) in
    subst (λ texts. AreReplaced texts old new) (sym (map-append (put_text core) done (put ∷ [])))
    (replaced_more (map (put_text core) done) (put_text core put) old now new replaced (subst (λ bytes. Replaces now new put.name bytes Stored) (kept_text core put one kept keeps) stores))

module _ (core : Machine) (files : List FileText) (puts : List Put) (is : map (put_text core) puts ≡ files) where
  -- all were replaced
  pub stored_all : (old new : Store) → AreReplaced (map (put_text core) puts) old.files new.files → new.faults ≡ old.faults → new.wants ≡ old.wants → AreStored files old new
  stored_all old new replaced steady wants = record {
    replaced = subst (λ z. AreReplaced z old.files new.files) is replaced;
    steady = steady;
    wants = wants;
  }

  -- one wasn't
  pub stored_part : (done later : List Put) (put : Put) → done ++ put ∷ later ≡ puts → (old now new : Store) → AreReplaced (map (put_text core) done) old.files now.files →
      (bytes : List ℕ) (answer : Replaced) → Replaces now.files new.files put.name bytes answer → (outcome : Outcome) → StopsStoring put.name old new outcome → AreStoredPart files old new outcome
  stored_part done later put parts old now new replaced bytes answer leaves outcome stops = record {
    name = put.name;
    part = replaced_part files (map (put_text core) done) (map (put_text core) later) (put_text core put)
        (sym (map-append (put_text core) done (put ∷ later)) ∙ ap (map (put_text core)) parts ∙ is) bytes answer old.files now.files new.files replaced leaves;
    stops = stops;
  }
