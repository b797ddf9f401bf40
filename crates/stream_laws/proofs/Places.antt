-- Where a strand stands on the way through its whole history by itself: by what it knows, its phase, and the pairs that it put and took.
use Rattle.std.proofs.Common.{◌≡◌, ℕ, Bool, true, false, cond, ◌&&◌, ◌==◌, List, [], ◌∷◌, ◌++◌, length, refl, sym, ◌∙◌, ap, subst, Some, None, slice_get, ℤ, pos, negsuc, append_assoc}
use Rattle.std.specs.Prelude.{filter}
use Rattle.std.proofs.lemmas.List.{append-nil}
use Rattle.std.proofs.lemmas.Bool.{eqb-true}
use Rattle.pipe_model.specs.declared.net.Strand.{Strand}
use Rattle.pipe_model.specs.Event.{Event, Want, taken_from, last_seen_on, has_ended, code_of, puts_on}
use Rattle.pipe_model.specs.Event.Event.{Up, Saw, SawEnd, Took, Put, Refused, Primed, Ended}
use Rattle.pipe_model.specs.Event.Want.{Commit, Read, Take, Write, Prime, Done}
use Rattle.pipe_model.specs.Row.{Pair, Act, Goal, Known, without}
use Rattle.pipe_model.specs.Row.Act.{Writes, Takes}
use Rattle.pipe_model.specs.Row.Goal.{Asks, Ends}
use Rattle.pipe_model.specs.Shape.{Records, writes, at_hand_of, records_of}
use Rattle.pipe_model.specs.Table.{form}
use Rattle.pipe_model.specs.Members.{flag_at}
use Rattle.pipe_model.specs.Next.{Phase, Past, is_live, begins_plan, hears, nothing_known, first_phase, past_by, want_in, wanted_by, next}
use Rattle.pipe_model.proofs.Pasts.{after, when_asked}
use Rattle.pipe_model.proofs.Numbers.{test_same}
use Rattle.pipe_model.specs.Next.Phase.{Starting, Doing}
use Rattle.pipe_model.specs.Alone.{Given, takes_more, look_alone, alone_event, IsAllAlone}
use Rattle.pipe_model.specs.Inputs.{records_from}
use Rattle.pipe_model.specs.Listed.{IsUnlimited}
use Rattle.confluence_laws.proofs.Neighbours.{took_count}
use Rattle.confluence_laws.proofs.Within.{Within, from_start, grows, is_all}
use Rattle.confluence_laws.proofs.Within.Within.{all}
use Rattle.stream_laws.specs.InOrder.{puts_of, connected, PutsInOrder}
use Rattle.stream_laws.proofs.Streams.{on_both, last_on, last_is}

abbrev pub mk : Known → Phase → Past
mk k f = record { known = k; refused = []; phase = f }

abbrev pub took : ℕ → Known → Known
took i k = record k { sight = without i k.sight }

-- what a history put in order, what it took of input 0, and the code with which it ended
pub record Did (s : Strand) (h : List Event) (pairs : List Pair) (records : Records) (code : ℤ) : Type 0 where
  pub puts : PutsInOrder s h pairs
  pub taken : taken_from 0 h ≡ records
  pub ended : code_of h ≡ code

module _ (s : Strand) (g : Given) (unlimited : IsUnlimited g) (W : List Event) (done : IsAllAlone s g W) where
  -- a beginning at which it stands so
  pub record Here (k : Known) (f : Phase) (put taken : List Pair) (h : List Event) : Type 0 where
    pub within : Within W h
    pub going : has_ended h ≡ false
    pub past : past_by (form s).row s.ports.has_output h ≡ mk k f
    pub puts : puts_of h ≡ put
    pub takes : (i : ℕ) → taken_from i h ≡ records_from i taken
    pub last : (i : ℕ) → last_seen_on i h ≡ last_on i k.seen

  -- its history comes to such a place
  abbrev pub Reaches : Known → Phase → List Pair → List Pair → Type 0
  Reaches k f put taken = (h : List Event) × Here k f put taken h

  wants : (k : Known) (f : Phase) (put taken : List Pair) (h : List Event) → Here k f put taken h → next s h ≡ want_in f
  wants k f put taken h x = ap (λ b. cond b None (wanted_by (form s).row s.ports.has_output h)) x.going ∙ ap (λ (p : Past). want_in p.phase) x.past

  -- it goes on
  on : (k : Known) (f : Phase) (put taken : List Pair) (h : List Event) (x : Here k f put taken h) (e : Event) (w : Want) → want_in f ≡ Some w → alone_event g h (Some w) ≡ Some e → Within W (e ∷ h)
  on k f put taken h x e w want may = grows s g W done h e w x.within (wants k f put taken h x ∙ want) may

  -- it puts what it is to write
  put_one : (k : Known) (o : ℕ) (rec : List ℕ) (acts : List Act) (goal : Goal) (put taken : List Pair) → Reaches k (Doing (Writes o rec ∷ acts) goal) put taken → Reaches k (Doing acts goal) (put ++ (o, rec) ∷ []) taken
  put_one k o rec acts goal put taken (h, x) = (
    Put o rec ∷ h,
    record {
      within = on k (Doing (Writes o rec ∷ acts) goal) put taken h x (Put o rec) (Write o rec) refl (ap (λ b. Some (cond (takes_more b (puts_on o h)) (Put o rec) (Refused o))) (unlimited o));
      going = x.going;
      past = ap (λ (p : Past). after (form s).row s.ports.has_output p p.phase (Put o rec)) x.past;
      puts = ap (λ z. z ++ (o, rec) ∷ []) x.puts;
      takes = x.takes;
      last = x.last;
    },
  )

  -- it takes a record
  pub take_one : (k : Known) (i : ℕ) (acts : List Act) (goal : Goal) (put taken : List Pair) → Reaches k (Doing (Takes i ∷ acts) goal) put taken → Reaches (took i k) (Doing acts goal) put (taken ++ (i, last_on i k.seen) ∷ [])
  take_one k i acts goal put taken (h, x) = (
    Took i ∷ h,
    record {
      within = on k (Doing (Takes i ∷ acts) goal) put taken h x (Took i) (Take i) refl refl;
      going = x.going;
      past = ap (λ (p : Past). after (form s).row s.ports.has_output p p.phase (Took i)) x.past;
      puts = x.puts;
      takes = λ q. by_test q (i == q) refl (x.takes q) ∙ sym (on_both q taken ((i, last_on i k.seen) ∷ []));
      last = x.last;
    },
  )
    where
      by_test : (q : ℕ) (b : Bool) → (i == q) ≡ b → taken_from q h ≡ records_from q taken → cond b (taken_from q h ++ last_seen_on q h ∷ []) (taken_from q h) ≡ records_from q taken ++ records_of (cond b ((i, last_on i k.seen) ∷ []) [])
      by_test q true is e = ap (λ z. z ++ last_seen_on q h ∷ []) e ∙ ap (λ z. records_from q taken ++ z ∷ []) (x.last q ∙ ap (λ z. last_on z k.seen) (sym (eqb-true i q is)))
      by_test q false is e = e ∙ sym (append-nil (records_from q taken))

  -- it puts all that it is to write to outputs that are connected
  pub write_all : (k : Known) (ps : List Pair) (acts : List Act) (goal : Goal) (put taken : List Pair) → Reaches k (Doing (filter (is_live s.ports.has_output []) (writes ps ++ acts)) goal) put taken →
      Reaches k (Doing (filter (is_live s.ports.has_output []) acts) goal) (put ++ connected s.ports.has_output ps) taken
  write_all k [] acts goal put taken r = subst (λ z. Reaches k (Doing (filter (is_live s.ports.has_output []) acts) goal) z taken) (sym (append-nil put)) r
  write_all k (p ∷ ps) acts goal put taken r = by_test (flag_at s.ports.has_output p.0) r (λ q x. write_all k ps acts goal q taken x)
    where
      by_test : (b : Bool) → Reaches k (Doing (cond (b && true) (Writes p.0 p.1 ∷ filter (is_live s.ports.has_output []) (writes ps ++ acts)) (filter (is_live s.ports.has_output []) (writes ps ++ acts))) goal) put taken →
          ((q : List Pair) → Reaches k (Doing (filter (is_live s.ports.has_output []) (writes ps ++ acts)) goal) q taken → Reaches k (Doing (filter (is_live s.ports.has_output []) acts) goal) (q ++ connected s.ports.has_output ps) taken) →
          Reaches k (Doing (filter (is_live s.ports.has_output []) acts) goal) (put ++ cond b (p ∷ connected s.ports.has_output ps) (connected s.ports.has_output ps)) taken
      by_test true x rest =
          subst (λ z. Reaches k (Doing (filter (is_live s.ports.has_output []) acts) goal) z taken) (append_assoc put (p ∷ []) (connected s.ports.has_output ps))
          (rest (put ++ p ∷ []) (put_one k p.0 p.1 (filter (is_live s.ports.has_output []) (writes ps ++ acts)) goal put taken x))
      by_test false x rest = rest put x

  -- it sees the next record of an input
  pub read_one : (k : Known) (i : ℕ) (rec : List ℕ) (put taken : List Pair) → Reaches k (Doing [] (Asks (Read i))) put taken → slice_get (g.inputs i) (length (records_from i taken)) ≡ Some rec →
      Reaches (hears k (Saw i rec)) (begins_plan s.ports.has_output [] ((form s).row.plan (hears k (Saw i rec)))) put taken
  read_one k i rec put taken (h, x) hand = (
    Saw i rec ∷ h,
    record {
      within = on k (Doing [] (Asks (Read i))) put taken h x (Saw i rec) (Read i) refl (ap (λ z. Some (look_alone i z)) (ap (slice_get (g.inputs i)) (sym (took_count i h) ∙ ap length (x.takes i)) ∙ hand));
      going = x.going;
      past = ap (λ (p : Past). after (form s).row s.ports.has_output p p.phase (Saw i rec)) x.past ∙ ap (when_asked (form s).row s.ports.has_output (mk k (Doing [] (Asks (Read i)))) (Saw i rec)) (test_same i);
      puts = x.puts;
      takes = x.takes;
      last = λ q. by_test q (i == q) refl (x.last q);
    },
  )
    where
      by_test : (q : ℕ) (b : Bool) → (i == q) ≡ b → last_seen_on q h ≡ last_on q k.seen → cond (i == q) rec (last_seen_on q h) ≡ last_on q (k.seen ++ (i, rec) ∷ [])
      by_test q true is e = ap (λ b. cond b rec (last_seen_on q h)) is ∙ subst (λ z. rec ≡ last_on z (k.seen ++ (i, rec) ∷ [])) (eqb-true i q is) (sym (last_is i k.seen rec))
      by_test q false is e =
          ap (λ b. cond b rec (last_seen_on q h)) is ∙ e
          ∙ ap at_hand_of (sym (on_both q k.seen ((i, rec) ∷ []) ∙ ap (λ b. records_from q k.seen ++ records_of (cond b ((i, rec) ∷ []) [])) is ∙ append-nil (records_from q k.seen)))

  -- it sees the end of an input
  pub read_end : (k : Known) (i : ℕ) (put taken : List Pair) → Reaches k (Doing [] (Asks (Read i))) put taken → slice_get (g.inputs i) (length (records_from i taken)) ≡ None →
      Reaches (hears k (SawEnd i)) (begins_plan s.ports.has_output [] ((form s).row.plan (hears k (SawEnd i)))) put taken
  read_end k i put taken (h, x) hand = (
    SawEnd i ∷ h,
    record {
      within = on k (Doing [] (Asks (Read i))) put taken h x (SawEnd i) (Read i) refl (ap (λ z. Some (look_alone i z)) (ap (slice_get (g.inputs i)) (sym (took_count i h) ∙ ap length (x.takes i)) ∙ hand));
      going = x.going;
      past = ap (λ (p : Past). after (form s).row s.ports.has_output p p.phase (SawEnd i)) x.past ∙ ap (when_asked (form s).row s.ports.has_output (mk k (Doing [] (Asks (Read i)))) (SawEnd i)) (test_same i);
      puts = x.puts;
      takes = x.takes;
      last = x.last;
    },
  )

  -- it is told whether DAM's first strand sees a record
  pub told_primed : (k : Known) (put taken : List Pair) → Reaches k (Doing [] (Asks Prime)) put taken →
      Reaches (hears k (Primed g.primed)) (begins_plan s.ports.has_output [] ((form s).row.plan (hears k (Primed g.primed)))) put taken
  told_primed k put taken (h, x) = (
    Primed g.primed ∷ h,
    record {
      within = on k (Doing [] (Asks Prime)) put taken h x (Primed g.primed) Prime refl refl;
      going = x.going;
      past = ap (λ (p : Past). after (form s).row s.ports.has_output p p.phase (Primed g.primed)) x.past;
      puts = x.puts;
      takes = x.takes;
      last = x.last;
    },
  )

  -- it reaches both commit levels and begins its work
  pub begins : (form s).row.early ≡ None → Reaches nothing_known (begins_plan s.ports.has_output [] ((form s).row.plan nothing_known)) [] []
  begins early = (
    Up (pos 0) (pos 0) ∷ Up (negsuc 0) (pos 0) ∷ [],
    record {
      within = on nothing_known (Starting (pos 0)) [] [] (Up (negsuc 0) (pos 0) ∷ []) second (Up (pos 0) (pos 0)) (Commit (pos 0)) refl refl;
      going = refl;
      past = ap (λ (p : Past). after (form s).row s.ports.has_output p p.phase (Up (pos 0) (pos 0))) second.past;
      puts = refl;
      takes = λ i. refl;
      last = λ i. refl;
    },
  )
    where
      first : Here nothing_known (Starting (negsuc 0)) [] [] []
      first = record { within = from_start W W all; going = refl; past = ap (λ e. mk nothing_known (first_phase e)) early; puts = refl; takes = λ i. refl; last = λ i. refl }

      second : Here nothing_known (Starting (pos 0)) [] [] (Up (negsuc 0) (pos 0) ∷ [])
      second = record {
        within = on nothing_known (Starting (negsuc 0)) [] [] [] first (Up (negsuc 0) (pos 0)) (Commit (negsuc 0)) refl refl;
        going = refl;
        past = ap (λ (p : Past). after (form s).row s.ports.has_output p p.phase (Up (negsuc 0) (pos 0))) first.past;
        puts = refl;
        takes = λ i. refl;
        last = λ i. refl;
      }

  -- or it ends before the first
  pub ends_early : (code : ℤ) → (form s).row.early ≡ Some code → Reaches nothing_known (Doing [] (Ends code)) [] []
  ends_early code early = ([], record { within = from_start W W all; going = refl; past = ap (λ e. mk nothing_known (first_phase e)) early; puts = refl; takes = λ i. refl; last = λ i. refl })

  -- what it did where it is to end
  pub record IsDone (put taken : List Pair) (code : ℤ) : Type 0 where
    pub puts : puts_of W ≡ put
    pub takes : (i : ℕ) → taken_from i W ≡ records_from i taken
    pub ended : code_of W ≡ code

  pub finish : (k : Known) (code : ℤ) (put taken : List Pair) → Reaches k (Doing [] (Ends code)) put taken → IsDone put taken code
  finish k code put taken (h, x) =
      let it = is_all s g W done (Ended code ∷ h) (on k (Doing [] (Ends code)) put taken h x (Ended code) (Done code) refl refl) refl in
      record {
        puts = sym (ap puts_of it) ∙ x.puts;
        takes = λ i. sym (ap (taken_from i) it) ∙ x.takes i;
        ended = sym (ap code_of it);
      }

  -- it puts all that is left to write
  pub write_rest : (k : Known) (ps : List Pair) (goal : Goal) (put taken : List Pair) → Reaches k (Doing (filter (is_live s.ports.has_output []) (writes ps)) goal) put taken → Reaches k (Doing [] goal) (put ++ connected s.ports.has_output ps) taken
  write_rest k ps goal put taken r = write_all k ps [] goal put taken (subst (λ z. Reaches k (Doing (filter (is_live s.ports.has_output []) z) goal) put taken) (sym (append-nil (writes ps))) r)
