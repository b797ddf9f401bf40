-- The inside: how trees of groups grow over the edges, until an edge closes a circle with those on the way from a group to one above it.
use Rattle.std.specs.Prelude.{◌≡◌, ◌⊎◌, ℕ, suc, ◌+◌, ◌*◌, ◌<◌, ◌≤◌, true, false, List, [], length, slice_get, slice_set}
use Rattle.std.specs.List.{sum_by}
use Rattle.std.specs.declared.option.Option.{Option}
use Rattle.std.specs.declared.option.Option.TheVariants.{Some, None}
use Rattle.pipe_model.specs.declared.net.Net.{Net}
use Rattle.pipe_model.specs.Members.{has}
use Rattle.stall_lint.specs.Circles.{IsCircle, IsHop}
use Rattle.stall_lint.specs.Listed.{Joins, edges_at}
use Rattle.stall_lint.specs.declared.hops.Hop.{Hop}
use Rattle.stall_lint.specs.declared.trees.Place.{Place}
use Rattle.stall_lint.specs.declared.trees.Step.{Step}
use Rattle.stall_lint.specs.declared.trees.Step.TheVariants.{At, Closes, Ends}

abbrev pub Places : Type 0
Places = List (Option Place)

-- Where groups stand

-- the group was reached, and stands so
abbrev pub Stands : Places → ℕ → Place → Type 0
Stands places g place = slice_get places g ≡ Some (Some place)

abbrev pub IsReached : Places → ℕ → Type 0
IsReached places g = (place : Place) × Stands places g place

-- the group was reached over this edge
abbrev pub IsReachedBy : Places → ℕ → ℕ → Type 0
IsReachedBy places g j = (place : Place) × Stands places g place × (place.up ≡ Some j)

-- the edge leads up from g to h
pub record IsUp (places : Places) (j g h : ℕ) : Type 0 where
  pub below : Place
  pub above : Place
  pub from : Stands places g below
  pub to : Stands places h above
  pub up : below.up ≡ Some j
  pub deeper : below.depth ≡ suc above.depth

-- the group was reached at this depth, and not all its edges were followed
pub record IsOpen (places : Places) (g depth : ℕ) : Type 0 where
  pub place : Place
  pub here : Stands places g place
  pub deep : place.depth ≡ depth
  pub undone : place.is_done ≡ false

-- a group stands as it did, but that it may be done
pub record IsKept (places : Places) (g : ℕ) (old : Place) : Type 0 where
  pub place : Place
  pub here : Stands places g place
  pub up : place.up ≡ old.up
  pub depth : place.depth ≡ old.depth

-- as each that was reached does
abbrev pub AreKept : Places → Places → Type 0
AreKept old new = (g : ℕ) (place : Place) → Stands old g place → IsKept new g place

-- the group was reached and is done now, and nothing else changes
pub record IsFinished (old : Places) (g : ℕ) (new : Places) : Type 0 where
  pub place : Place
  pub here : Stands old g place
  pub now : new ≡ slice_set old g (Some (record place { is_done = true }))

-- Hops

-- the link of this number is an edge with an end in the group
abbrev pub HasEnd : Net → List ℕ → ℕ → ℕ → Type 0
HasEnd net labels j g = (h : ℕ) × Joins net labels j g h

-- the hop goes over this edge from one group to another
pub record LeadsTo (net : Net) (labels : List ℕ) (hop : Hop) (j g h : ℕ) : Type 0 where
  pub over : IsHop net hop
  pub link : hop.link ≡ j
  pub exit : slice_get labels hop.exit ≡ Some g
  pub entry : slice_get labels hop.entry ≡ Some h

abbrev pub LeadsOn : Net → List ℕ → Hop → ℕ → ℕ → Type 0
LeadsOn net labels hop j g = (h : ℕ) × LeadsTo net labels hop j g h

-- Trees

-- each group that was reached but for a root was so over an edge from a group above it. A group has still each edge that isn't a way up,
-- and none where it is done
pub record AreTrees (net : Net) (labels : List ℕ) (edges : List (List ℕ)) (places : Places) : Type 0 where
  pub edges_count : length edges ≡ length labels
  pub places_count : length places ≡ length labels
  pub most : (g : ℕ) (place : Place) → Stands places g place → place.depth ≤ length net.strands
  pub ups : (g j : ℕ) → IsReachedBy places g j → (h : ℕ) × Joins net labels j g h × IsUp places j g h
  pub among : (g j : ℕ) → has (edges_at edges g) j ≡ true → HasEnd net labels j g
  pub left : (j g h : ℕ) → Joins net labels j g h → (has (edges_at edges g) j ≡ true) ⊎ (IsUp places j g h ⊎ IsUp places j h g)
  pub done : (g : ℕ) (place : Place) → Stands places g place → place.is_done ≡ true → edges_at edges g ≡ []

-- all groups that were reached are done
pub record AreGrown (net : Net) (labels : List ℕ) (edges : List (List ℕ)) (places : Places) : Type 0 where
  pub trees : AreTrees net labels edges places
  pub done : (g : ℕ) (place : Place) → Stands places g place → place.is_done ≡ true

-- Ways

-- the hop of this place leads from a group at this depth to one below it, which was reached so
pub record IsOn (net : Net) (labels : List ℕ) (places : Places) (k : ℕ) (hop : Hop) : Type 0 where
  pub from : ℕ
  pub to : ℕ
  pub leads : LeadsTo net labels hop hop.link from to
  pub before : IsOpen places from k
  pub after : IsOpen places to (suc k)
  pub up : IsUp places hop.link to from

-- the way leads from the root to a group, and all groups that aren't done stand on it
pub record IsWay (net : Net) (labels : List ℕ) (places : Places) (way : List Hop) (at : ℕ) : Type 0 where
  pub on : (k : ℕ) (hop : Hop) → slice_get way k ≡ Some hop → IsOn net labels places k hop
  pub here : IsOpen places at (length way)
  pub within : (g d : ℕ) → IsOpen places g d → d ≤ length way
  pub one : (g h d : ℕ) → IsOpen places g d → IsOpen places h d → g ≡ h

-- a tree grows at this group
pub record IsGrowing (net : Net) (labels : List ℕ) (edges : List (List ℕ)) (places : Places) (way : List Hop) (at : ℕ) : Type 0 where
  pub trees : AreTrees net labels edges places
  pub walk : IsWay net labels places way at

-- what is left to do
abbrev pub work : List (List ℕ) → List Hop → ℕ
work edges way = 2 * sum_by length edges + length way

-- what a step may lead to
abbrev pub Steps : Net → List ℕ → List (List ℕ) → Places → List Hop → List (List ℕ) → Places → List Hop → Step → Type 0
Steps net labels edges places way new_edges new_places new_way (At g) = IsGrowing net labels new_edges new_places new_way g × AreKept places new_places × (work new_edges new_way < work edges way)
Steps net labels edges places way new_edges new_places new_way (Closes hops) = IsCircle net hops.items
Steps net labels edges places way new_edges new_places new_way Ends = AreGrown net labels new_edges new_places × AreKept places new_places

-- what a tree may come to
abbrev pub Grew : Net → List ℕ → ℕ → Places → List (List ℕ) → Places → Option (List Hop) → Type 0
Grew net labels root places new_edges new_places None = AreGrown net labels new_edges new_places × AreKept places new_places × IsReached new_places root
Grew net labels root places new_edges new_places (Some hops) = IsCircle net hops
