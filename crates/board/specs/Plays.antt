-- How a view begins, is cut and joined, and what each step tells: of the seat before, the number found and the seat after. It serves the inside.
use Rattle.std.specs.Prelude.{◌≡◌, ◌≢◌, ℕ, ◌+◌, ◌-◌, ◌<◌, ◌≤◌, List, [], ◌∷◌, ◌++◌, length, Option, Some, None, true, false, cond, nat_lt}
use mathlib.Core.List.{IsPrefix}
use Rattle.atomic_table.specs.Table.{Me, Step}
use Rattle.pipe_model.specs.declared.step.Entry.{Entry}
use Rattle.core_machine.specs.Machine.{Machine, IsLawful}
use Rattle.board.specs.Counts.{times, places, places_after, all_shares, all_tries}
use Rattle.board.specs.Rule.{Kept, Slot}
use Rattle.board.specs.declared.view.View.{View}

-- a seat: its view, and the slot where it holds it
abbrev pub Sat : Type 0
Sat = Me Slot View

-- what a step tells, of the seat before, the number that the word had and the seat after
abbrev pub Told : Type 1
Told = Step Slot → Sat → ℕ → Sat → Type 0

-- Views

-- the first view, of all that the core did before
abbrev pub founder : Machine → View
founder m = record {
  net = m.net;
  budget = m.budget;
  seen = m.journal;
  told = [];
  mine = places (length m.journal);
  home = places (length m.journal);
  lost = [];
  out = [];
  is_broken = false;
  turn = 0;
  holds = 0;
  used = 0;
  shares = all_shares;
  tries = all_tries;
  held = None;
}

-- the view that is left of one that was joined to another
abbrev pub blank : View
blank = record {
  net = record { strands = []; links = [] };
  budget = 0;
  seen = [];
  told = [];
  mine = [];
  home = [];
  lost = [];
  out = [];
  is_broken = false;
  turn = 0;
  holds = 0;
  used = 0;
  shares = 0;
  tries = 0;
  held = None;
}

-- what is kept where one share and n tries are given away
abbrev pub kept_part : ℕ → View → View
kept_part n v = record v { shares = v.shares - 1; tries = v.tries - n }

-- the new view of the one to whom they are given
abbrev pub given_part : ℕ → View → View
given_part n v = record v { told = []; mine = []; home = []; lost = []; holds = 0; used = 0; shares = 1; tries = n; held = None }

-- of two lists the longer, which is the first where they are equally long
abbrev pub longer : List Entry → List Entry → List Entry
longer xs ys = cond (nat_lt (length xs) (length ys)) ys xs

-- the other one
abbrev pub shorter : List Entry → List Entry → List Entry
shorter xs ys = cond (nat_lt (length xs) (length ys)) xs ys

-- two views as one, which knows what the later of them knew
abbrev pub both : View → View → View
both v w = record {
  net = v.net;
  budget = v.budget;
  seen = longer v.seen w.seen;
  told = shorter v.seen w.seen;
  mine = v.mine ++ w.mine;
  home = v.home ++ w.home;
  lost = v.lost ++ w.lost;
  out = cond (nat_lt v.turn w.turn) w.out v.out;
  is_broken = cond (nat_lt v.turn w.turn) w.is_broken v.is_broken;
  turn = cond (nat_lt v.turn w.turn) w.turn v.turn;
  holds = v.holds + w.holds;
  used = v.used + w.used;
  shares = v.shares + w.shares;
  tries = v.tries + w.tries;
  held = None;
}

-- a try was used up, as the slot was out
abbrev pub after_busy : View → View
after_busy v = record v { tries = v.tries - 1 }

-- a try was used up, and the slot is now out with this view
abbrev pub after_take : View → Kept → View
after_take v k = record v { tries = v.tries - 1; held = Some k }

-- how many entries the core has that is held
abbrev pub held_length : Option Kept → ℕ
held_length (Some h) = length h.0.journal
held_length None = 0

-- the places of the entries that k has beyond those of the core that the view holds
abbrev pub new_places : View → Kept → List ℕ
new_places v k = places_after (held_length v.held) (length k.0.journal)

-- they are this view's, and of its jobs those of the places in home came home and those in lost were lost
abbrev pub after_raise : List ℕ → List ℕ → View → Kept → View
after_raise home lost v k = record v { mine = v.mine ++ new_places v k; home = v.home ++ home; lost = v.lost ++ lost; held = Some k }

-- the slot was given back with k, r being what the turn word was
abbrev pub after_give : List ℕ → List ℕ → ℕ → View → Kept → View
after_give home lost r v k = record v {
  seen = k.0.journal;
  home = v.home ++ home;
  lost = v.lost ++ lost;
  out = k.0.out;
  is_broken = k.0.is_broken;
  turn = k.1;
  holds = v.holds + 1;
  used = v.used + r;
  held = None;
}

-- the view, where it isn't the holder's
abbrev pub without_slot : View → View
without_slot v = record v { held = None }

-- What the one who took the slot knows

-- what one who has all shares knows of the core
pub record SeesAll (v : View) (k : Kept) : Type 0 where
  pub mine : (p : ℕ) → times p v.mine ≡ times p (places (length k.0.journal))
  pub jobs : (p : ℕ) → times p v.home + times p k.0.out ≡ times p (places (length k.0.journal))
  pub sound : v.lost ≡ [] → k.0.is_broken ≡ false

-- what anyone who took the slot knows of it
pub record Sees (v : View) (k : Kept) : Type 0 where
  pub net : 0 < v.shares → (k.0.net ≡ v.net) × (k.0.budget ≡ v.budget)
  pub seen : IsPrefix v.seen k.0.journal
  pub lawful : IsLawful k.0
  -- of each entry that the pass made, the job is out or it brought it home
  pub jobs : (p : ℕ) → 0 < times p v.mine → times p v.home + times p k.0.out ≡ 1
  pub mine : (p : ℕ) → times p v.mine ≤ times p (places (length k.0.journal))
  pub out : (p : ℕ) → times p k.0.out ≤ times p (places (length k.0.journal))
  pub parts : (p : ℕ) → times p v.home + times p v.lost ≤ times p v.mine
  pub turns : k.1 ≤ all_tries
  pub lost : 0 < length v.lost → k.0.is_broken ≡ true
  pub all : v.shares ≡ all_shares → SeesAll v k

-- the place is new to the view
abbrev pub IsNew : View → ℕ → Type 0
IsNew v p = (times p v.mine ≡ 0) × (times p v.home ≡ 0) × (times p v.lost ≡ 0)

-- and so is each of these
abbrev pub AreNew : View → List ℕ → Type 0
AreNew v new = (p : ℕ) → 0 < times p new → IsNew v p

-- Steps

-- the slot was at home, and is now with this seat
pub record Took (m n : Sat) : Type 0 where
  pub kept : Kept
  pub seat : n ≡ (after_take m.0 kept, (0, Some kept) ∷ m.1)
  pub sees : Sees m.0 kept

-- a fetch_add of 1 on the turn word: one who has all shares always finds the slot at home
abbrev pub Tried : Told
Tried st m r n = (r ≡ 0 → Took m n) × (r ≢ 0 → (n ≡ (after_busy m.0, m.1)) × (m.0.shares ≢ all_shares))

-- a compare_exchange of 0 to 1 on the turn word, which changes nothing where it fails
abbrev pub Waited : Told
Waited st m r n = (r ≡ 0 → Took m n) × (r ≢ 0 → n ≡ m)

-- a fetch_add on the length word, by the holder, of the number of entries that it made, with the places that were brought home and lost
abbrev pub Raised : List ℕ → List ℕ → Told
Raised home lost st m r n = (k : Kept) → m.1 ≡ (0, Some k) ∷ [] → (n ≡ (after_raise home lost m.0 k, (0, Some k) ∷ [])) × AreNew m.0 (new_places m.0 k)

-- a swap of 0 on the turn word, with the places that were brought home and lost
abbrev pub Gave : List ℕ → List ℕ → Told
Gave home lost st m r n = (k : Kept) → m.1 ≡ (0, Some k) ∷ [] → n ≡ (after_give home lost r m.0 k, [])

-- a load of the length word, after two views were joined
abbrev pub Learned : Told
Learned st m r n = (n ≡ m) × IsPrefix m.0.told m.0.seen × ((p : ℕ) → times p m.0.mine ≤ 1) × (m.0.shares ≤ all_shares) × (m.0.tries ≤ all_tries)
