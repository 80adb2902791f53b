-- Changes as they are made in one walk: the edges that none of them cuts, and then the added edges that no later one cuts.
use Rattle.std.specs.Prelude.{Bool, true, false, not, if◌then◌else◌, List, [], ◌∷◌}
use Rattle.std.specs.List.{filter, list_any}
use Rattle.gm_base.specs.declared.edge.Edge.{Edge}
use Rattle.gm_changes.specs.declared.change.Change.{Change}
use Rattle.gm_changes.specs.declared.change.Change.TheVariants.{Add, Cut}
use Rattle.gm_changes.specs.Changes.{is_between}

-- whether a change cuts the edge
abbrev pub cuts_edge : Edge → Change → Bool
cuts_edge e (Add x) = false
cuts_edge e (Cut from to) = is_between from to e

-- whether one of the changes does
abbrev pub is_cut : List Change → Edge → Bool
is_cut changes e = list_any (cuts_edge e) changes

-- the edges that none of the changes cuts
abbrev pub uncut_edges : List Change → List Edge → List Edge
uncut_edges changes edges = filter (λ e. not (is_cut changes e)) edges

-- the edges that are added and cut by no later change
abbrev pub kept_adds : List Change → List Edge
kept_adds [] = []
kept_adds (Add e ∷ changes) = if is_cut changes e then kept_adds changes else e ∷ kept_adds changes
kept_adds (Cut from to ∷ changes) = kept_adds changes

abbrev pub is_add : Change → Bool
is_add (Add e) = true
is_add (Cut from to) = false
