-- What proofs need of chunks after changes: which changes suffice, and where the edges of a content lie.
use Rattle.std.proofs.Common.{◌≡◌, ℕ, zero, suc, ◌+◌, ◌*◌, ◌<◌, ◌≤◌, Bool, true, false, cond, not, ◌||◌, ◌&&◌, eqb, List, [], ◌∷◌, ◌++◌, length, take, drop, All, get_or, append-nil, sym, ap, ◌∙◌, refl, subst, arith, inl, inr}
use Rattle.std.specs.List.{AllByRecursion, flat_map, list_any}
use Rattle.std.proofs.lemmas.Bool.{cases_Bool, cases_lt, cond-true, cond-false}
use Rattle.std.proofs.lemmas.List.Elements.{All-from_recursion, recursion_from_All, All-push, All-filter, All-head, All-tail, All-take, All-drop, All-weaker}
use Rattle.gm_base.specs.declared.edge.Edge.{Edge}
use Rattle.gm_base.specs.Dimensions.{Dimensions, AreDimensions, block_of}
use Rattle.gm_base.specs.DimensionsRules.{block_below}
use Rattle.gm_base.specs.Graph.{IsSameGraph, HasEndsBelow, IsGraph}
use Rattle.gm_changes.specs.declared.change.Change.{Change}
use Rattle.gm_changes.specs.declared.change.Change.TheVariants.{Add, Cut}
use Rattle.gm_changes.specs.Changes.{ChangesWithin, is_between, edges_after_one, edges_after}
use Rattle.gm_changes.specs.Concerns.{Site, lists, concerns, concerning_changes, sources_after, sources_after_one, IsPlaced, AddsWithin}
use Rattle.gm_changes.specs.ConcernsRules.{concerning_changes-parts, placed_after}
use Rattle.gm_changes.specs.JoinedRules.{joined_over_chunks}
use Rattle.std.proofs.Math.Seq.{take-append_seam}
use Rattle.std.proofs.lemmas.List.{get_or_past, get_or-take, length-take-le, length_push, get_or_push}
use Rattle.gm_label.specs.declared.chunk.Place.{Place}
use Rattle.gm_label.specs.Catalogues.{Catalogue, no_place, place_at, sources_at, base_at, chunk_numbers, IsOver}
use Rattle.gm_versions.specs.Contents.{added_sources, added_at_after, site_at, changes_at, sources_at_after, next_changes_at, content_after, changes_up_to, all_changes, changes_near, is_some_change, update_changes_at, last_update}

pub none_is : (changes : List Change) → is_some_change changes ≡ false → changes ≡ []
none_is [] h = refl
none_is (c ∷ changes) h = absurd (cc)

abbrev pub update_at : List (List Change) → ℕ → List Change
update_at updates t = get_or updates t []

pub last-le : (cat : Catalogue) (updates : List (List Change)) (c version : ℕ) → last_update cat updates c version ≤ version
last-le cat updates c zero = omega arith
last-le cat updates c (suc version) =
    let earlier = last-le cat updates c version in
    let at : (b : Bool) → cond b (suc version) (last_update cat updates c version) ≤ suc version = elim [ true ↦ omega arith | false ↦ omega arith ] in
    at (is_some_change (update_changes_at cat updates c version))

pub last-concerns : (cat : Catalogue) (updates : List (List Change)) (c version t : ℕ) → last_update cat updates c version ≡ t + 1
    → is_some_change (update_changes_at cat updates c t) ≡ true
last-concerns cat updates c zero t is = absurd (omega arith)
last-concerns cat updates c (suc version) t is =
    let some = is_some_change (update_changes_at cat updates c version) in
    elim (cases_Bool some) as (λ _. is_some_change (update_changes_at cat updates c t) ≡ true) [
      | inl so ↦
          let here : suc version ≡ t + 1 = sym (cond-true some (suc version) (last_update cat updates c version) so) ∙ is in
          let same : version ≡ t = omega arith in
          subst (λ (v : ℕ). is_some_change (update_changes_at cat updates c v) ≡ true) same so
      | inr unchanged ↦ last-concerns cat updates c version t (sym (cond-false some (suc version) (last_update cat updates c version) unchanged) ∙ is)
    ]

pub none-later : (cat : Catalogue) (updates : List (List Change)) (c version t : ℕ)
    → last_update cat updates c version ≤ t → t < version
    → update_changes_at cat updates c t ≡ []
none-later cat updates c zero t last less = absurd (omega arith)
none-later cat updates c (suc version) t last less =
    let some = is_some_change (update_changes_at cat updates c version) in
    elim (cases_Bool some) as (λ _. update_changes_at cat updates c t ≡ []) [
      | inl so ↦
          let here = cond-true some (suc version) (last_update cat updates c version) so in
          absurd (omega arith)
      | inr unchanged ↦
          let before = cond-false some (suc version) (last_update cat updates c version) unchanged in
          elim (cases_lt t version) as (λ _. update_changes_at cat updates c t ≡ []) [
            | inl earlier ↦ none-later cat updates c version t (omega arith) earlier
            | inr here ↦
                let same : version ≡ t = omega arith in
                subst (λ (v : ℕ). update_changes_at cat updates c v ≡ []) same (none_is _ unchanged)
          ]
    ]

some_of : (d : Dimensions) (site : Site) (sources : List ℕ) (changes : List Change)
    → is_some_change (concerning_changes d site sources changes) ≡ list_any (concerns d site sources) changes
some_of d site sources [] = refl
some_of d site sources (c ∷ changes) =
    let goal-at = λ (b : Bool).
    is_some_change (cond b (c ∷ concerning_changes d site (sources_after_one c sources) changes) (concerning_changes d site sources changes))
    ≡ (b || list_any (concerns d site sources) changes) in
    let at : (b : Bool) → goal-at b = elim [ true ↦ refl | false ↦ some_of d site sources changes ] in
    at (concerns d site sources c)

-- changes in two parts
pub in_parts : (cat : Catalogue) (c : ℕ) (first second : List Change)
    → changes_at cat c (first ++ second) ≡ changes_at cat c first ++ next_changes_at cat c first second
in_parts cat c first second = concerning_changes-parts cat.dimensions (site_at cat c) (sources_at cat c) first second

pub added_sources-append : (xs ys : List Change) → added_sources (xs ++ ys) ≡ added_sources xs ++ added_sources ys
added_sources-append [] ys = refl
added_sources-append (Add e ∷ xs) ys = ap (λ ss. e.from ∷ ss) (added_sources-append xs ys)
added_sources-append (Cut from to ∷ xs) ys = added_sources-append xs ys

pub added-in_parts : (cat : Catalogue) (c : ℕ) (first second : List Change)
    → added_at_after cat c (first ++ second) ≡ added_at_after cat c first ++ added_sources (next_changes_at cat c first second)
added-in_parts cat c first second =
    ap added_sources (in_parts cat c first second) ∙ added_sources-append (changes_at cat c first) (next_changes_at cat c first second)

-- the first change that concerns a chunk is met with the sources from before all of them
pub some-concerning_changes : (cat : Catalogue) (c : ℕ) (before changes : List Change)
    → is_some_change (next_changes_at cat c before changes) ≡ list_any (concerns cat.dimensions (site_at cat c) (sources_at_after cat c before)) changes
some-concerning_changes cat c before changes = some_of cat.dimensions (site_at cat c) (sources_at_after cat c before) changes

-- the second part doesn't concern the chunk
pub without_second : (cat : Catalogue) (c : ℕ) (first second : List Change) → is_some_change (next_changes_at cat c first second) ≡ false
    → changes_at cat c (first ++ second) ≡ changes_at cat c first
without_second cat c first second none =
    in_parts cat c first second ∙ ap (λ cs. changes_at cat c first ++ cs) (none_is _ none) ∙ append-nil (changes_at cat c first)

-- where the same of the changes before concern the chunk, the same do with further changes
pub concerning_changes-same_before : (cat : Catalogue) (c : ℕ) (before other next : List Change) → changes_at cat c before ≡ changes_at cat c other
    → changes_at cat c (before ++ next) ≡ changes_at cat c (other ++ next)
concerning_changes-same_before cat c before other next same =
    in_parts cat c before next
    ∙ ap (λ (cs : List Change). cs ++ concerning_changes cat.dimensions (site_at cat c) (sources_after cs (sources_at cat c)) next) same
    ∙ sym (in_parts cat c other next)

pub concerning_changes-up_to_last : (cat : Catalogue) (updates : List (List Change)) (c version : ℕ)
    → changes_at cat c (changes_up_to updates (last_update cat updates c version)) ≡ changes_at cat c (changes_up_to updates version)
concerning_changes-up_to_last cat updates c zero = refl
concerning_changes-up_to_last cat updates c (suc version) =
    let some = is_some_change (update_changes_at cat updates c version) in
    let at : (b : Bool) → some ≡ b
    → changes_at cat c (changes_up_to updates (cond b (suc version) (last_update cat updates c version))) ≡ changes_at cat c (changes_up_to updates (suc version)) = elim [
      | true ↦ λ so. refl
      | false ↦ λ none.
          concerning_changes-up_to_last cat updates c version ∙ sym (without_second cat c (changes_up_to updates version) (update_at updates version) none)
    ] in
    at some refl

-- of the updates up to a version those that concern the chunk suffice
pub concerning_changes-near : (cat : Catalogue) (updates : List (List Change)) (c version : ℕ)
    → changes_at cat c (changes_near cat updates c version) ≡ changes_at cat c (changes_up_to updates version)
concerning_changes-near cat updates c zero = refl
concerning_changes-near cat updates c (suc version) =
    let near = changes_near cat updates c version in
    let before = changes_up_to updates version in
    let batch = update_at updates version in
    let earlier = concerning_changes-near cat updates c version in
    let at : (b : Bool) → is_some_change (next_changes_at cat c before batch) ≡ b
    → changes_at cat c (cond b (near ++ batch) near) ≡ changes_at cat c (before ++ batch) = elim [
      | true ↦ λ so. concerning_changes-same_before cat c near before batch earlier
      | false ↦ λ none. earlier ∙ sym (without_second cat c before batch none)
    ] in
    at (is_some_change (next_changes_at cat c before batch)) refl

pub content-up_to_last : (cat : Catalogue) (edges : List Edge) (updates : List (List Change)) (c version : ℕ)
    → content_after cat edges (changes_up_to updates (last_update cat updates c version)) c ≡ content_after cat edges (changes_up_to updates version) c
content-up_to_last cat edges updates c version =
    ap (λ cs. edges_after cs (base_at cat edges c)) (concerning_changes-up_to_last cat updates c version)

pub content-same_update : (cat : Catalogue) (edges : List Edge) (updates : List (List Change)) (c version other : ℕ)
    → last_update cat updates c version ≡ last_update cat updates c other
    → content_after cat edges (changes_up_to updates version) c ≡ content_after cat edges (changes_up_to updates other) c
content-same_update cat edges updates c version other same =
    sym (content-up_to_last cat edges updates c version)
    ∙ ap (λ (t : ℕ). content_after cat edges (changes_up_to updates t) c) same
    ∙ content-up_to_last cat edges updates c other

both_hold : (d : Dimensions) (site : Site) (sources : List ℕ) (xs : List Edge)
    → AllByRecursion (λ e. block_of d e ≡ site.block) xs → AllByRecursion (λ e. lists sources e.from ≡ true) xs
    → AllByRecursion (IsPlaced d site sources) xs
both_hold d site sources [] in_block listed = tt
both_hold d site sources (e ∷ xs) in_block listed =
    (record { in_block = in_block.0; listed = listed.0 }, both_hold d site sources xs in_block.1 listed.1)

-- the edges of a chunk of the grid are placed in it
pub base-placed : (cat : Catalogue) (edges : List Edge) → IsOver cat edges → (c : ℕ)
    → AllByRecursion (IsPlaced cat.dimensions (site_at cat c) (sources_at cat c)) (base_at cat edges c)
base-placed cat edges over c =
    both_hold cat.dimensions (site_at cat c) (sources_at cat c) (base_at cat edges c)
    (recursion_from_All (λ e. block_of cat.dimensions e ≡ (place_at cat c).block) (base_at cat edges c) (over.in_block c))
    (recursion_from_All (λ e. lists (sources_at cat c) e.from ≡ true) (base_at cat edges c) (over.listed c))

-- and stay so after changes
pub content-placed : (cat : Catalogue) (edges : List Edge) (changes : List Change) (c : ℕ) → IsOver cat edges
    → All (IsPlaced cat.dimensions (site_at cat c) (sources_at_after cat c changes)) (content_after cat edges changes c)
content-placed cat edges changes c over =
    All-from_recursion (IsPlaced cat.dimensions (site_at cat c) (sources_at_after cat c changes)) (content_after cat edges changes c)
    (placed_after cat.dimensions (site_at cat c) (sources_at cat c) changes (base_at cat edges c) (base-placed cat edges over c))

-- an added edge lies in a block of the grid
adds_within : (d : Dimensions) (change : Change) → AreDimensions d.n d.parts → ChangesWithin d.n change → AddsWithin d (d.parts * d.parts) change
adds_within d (Add e) dims ends = block_below d e dims ends
adds_within d (Cut from to) dims ends = tt

pub contents-joined : (cat : Catalogue) (edges : List Edge) (changes : List Change) → IsOver cat edges
    → AreDimensions cat.dimensions.n cat.dimensions.parts → All (ChangesWithin cat.dimensions.n) changes
    → IsSameGraph (flat_map (content_after cat edges changes) (chunk_numbers cat)) (edges_after changes edges)
contents-joined cat edges changes over dims ends =
    let blocks = cat.dimensions.parts * cat.dimensions.parts in
    let within = recursion_from_All (AddsWithin cat.dimensions blocks) changes
    (All-weaker (ChangesWithin cat.dimensions.n) (AddsWithin cat.dimensions blocks) (λ change h. adds_within cat.dimensions change dims h) changes ends) in
    let joined = joined_over_chunks cat.dimensions blocks (site_at cat) (sources_at cat) (base_at cat edges) (chunk_numbers cat) changes
    (base-placed cat edges over) (record { one = over.one_last; none = over.no_other }) within in
    subst (λ (xs : List Edge). IsSameGraph (flat_map (content_after cat edges changes) (chunk_numbers cat)) (edges_after changes xs)) over.joined joined

concerning_changes-within : (n : ℕ) (d : Dimensions) (site : Site) (sources : List ℕ) (changes : List Change) → AllByRecursion (ChangesWithin n) changes
    → AllByRecursion (ChangesWithin n) (concerning_changes d site sources changes)
concerning_changes-within n d site sources [] ends = tt
concerning_changes-within n d site sources (c ∷ changes) ends =
    let more = c ∷ concerning_changes d site (sources_after_one c sources) changes in
    let fewer = concerning_changes d site sources changes in
    let at : (b : Bool) → AllByRecursion (ChangesWithin n) (cond b more fewer) = elim [
      | true ↦ (ends.0, concerning_changes-within n d site (sources_after_one c sources) changes ends.1)
      | false ↦ concerning_changes-within n d site sources changes ends.1
    ] in
    at (concerns d site sources c)

-- of changes among n vertices those that concern a chunk are too
pub changes_at-within : (cat : Catalogue) (c n : ℕ) (changes : List Change) → All (ChangesWithin n) changes → All (ChangesWithin n) (changes_at cat c changes)
changes_at-within cat c n changes ends =
    All-from_recursion (ChangesWithin n) (changes_at cat c changes)
    (concerning_changes-within n cat.dimensions (site_at cat c) (sources_at cat c) changes (recursion_from_All (ChangesWithin n) changes ends))

pub edges_after-within : (n : ℕ) (changes : List Change) (edges : List Edge) → All (ChangesWithin n) changes → IsGraph n edges → IsGraph n (edges_after changes edges)
edges_after-within n [] edges ends graph = graph
edges_after-within n (Add e ∷ changes) edges ends graph =
    edges_after-within n changes (edges ++ e ∷ []) (All-tail (ChangesWithin n) (Add e) changes ends)
    (All-push (HasEndsBelow n) edges e graph (All-head (ChangesWithin n) (Add e) changes ends))
edges_after-within n (Cut from to ∷ changes) edges ends graph =
    edges_after-within n changes (edges_after_one (Cut from to) edges) (All-tail (ChangesWithin n) (Cut from to) changes ends)
    (All-filter (λ e. not (is_between from to e)) (HasEndsBelow n) edges graph)

-- the edges of a content have both ends among the vertices
pub content-within : (cat : Catalogue) (edges : List Edge) (changes : List Change) (c : ℕ) → IsGraph cat.dimensions.n edges
    → All (ChangesWithin cat.dimensions.n) changes → IsGraph cat.dimensions.n (content_after cat edges changes c)
content-within cat edges changes c graph ends =
    let n = cat.dimensions.n in
    edges_after-within n (changes_at cat c changes) (base_at cat edges c) (changes_at-within cat c n changes ends)
    (All-take (HasEndsBelow n) (place_at cat c).count _ (All-drop (HasEndsBelow n) (place_at cat c).first edges graph))

or-none : (b : Bool) → b ≡ (b || false)
or-none true = refl
or-none false = refl

or-moved : (a b c : Bool) → ((a || b) || c) ≡ (b || (a || c))
or-moved true true c = refl
or-moved true false c = refl
or-moved false b c = refl

-- the sources so far are those from before, and those of added edges
pub lists-after : (changes : List Change) (sources : List ℕ) (u : ℕ) → lists (sources_after changes sources) u ≡ (lists sources u || lists (added_sources changes) u)
lists-after [] sources u = or-none (lists sources u)
lists-after (Add e ∷ changes) sources u =
    lists-after changes (e.from ∷ sources) u ∙ or-moved (eqb e.from u) (lists sources u) (lists (added_sources changes) u)
lists-after (Cut from to ∷ changes) sources u = lists-after changes sources u

pub append-none : (xs ys : List Change) → xs ++ ys ≡ [] → (xs ≡ []) × (ys ≡ [])
append-none [] ys h = (refl, h)
append-none (x ∷ xs) ys h = absurd (cc)

pub no_update : (cat : Catalogue) (updates : List (List Change)) (c version : ℕ) → changes_at cat c (changes_up_to updates version) ≡ [] → last_update cat updates c version ≡ 0
no_update cat updates c zero none = refl
no_update cat updates c (suc version) none =
    let parts = append-none (changes_at cat c (changes_up_to updates version)) _ (sym (in_parts cat c (changes_up_to updates version) (update_at updates version)) ∙ none) in
    ap (λ (cs : List Change). cond (is_some_change cs) (suc version) (last_update cat updates c version)) parts.1 ∙ no_update cat updates c version parts.0

-- nothing is added where edges that are added don't go
added-elsewhere : (d : Dimensions) (site : Site) (sources : List ℕ) (changes : List Change) → site.is_last ≡ false
    → added_sources (concerning_changes d site sources changes) ≡ []
added-elsewhere d site sources [] elsewhere = refl
added-elsewhere d site sources (Add e ∷ changes) elsewhere =
    let b = eqb (block_of d e) site.block in
    let all = concerning_changes d site (e.from ∷ sources) changes in
    let others = concerning_changes d site sources changes in
    ap (λ (last : Bool). added_sources (cond (last && b) (Add e ∷ all) others)) elsewhere ∙ added-elsewhere d site sources changes elsewhere
added-elsewhere d site sources (Cut from to ∷ changes) elsewhere =
    let others = concerning_changes d site sources changes in
    let at : (b : Bool) → added_sources (cond b (Cut from to ∷ others) others) ≡ added_sources others = elim [ true ↦ refl | false ↦ refl ] in
    at (concerns d site sources (Cut from to)) ∙ added-elsewhere d site sources changes elsewhere

-- a number that no chunk has is given no source ..
pub added-past : (cat : Catalogue) (c : ℕ) (changes : List Change) → length cat.places ≤ c → added_at_after cat c changes ≡ []
added-past cat c changes past =
    added-elsewhere cat.dimensions (site_at cat c) (sources_at cat c) changes (ap (λ (p : Place). p.is_last) (get_or_past cat.places c no_place past))

none-added : (changes : List Change) → added_sources changes ≡ [] → edges_after changes [] ≡ []
none-added [] none = refl
none-added (Add e ∷ changes) none = absurd (cc)
none-added (Cut from to ∷ changes) none = none-added changes none

-- .. and has no edge
pub content-past : (cat : Catalogue) (edges : List Edge) (changes : List Change) (c : ℕ) → length cat.places ≤ c → content_after cat edges changes c ≡ []
content-past cat edges changes c past =
    ap (λ (p : Place). edges_after (changes_at cat c changes) (take p.count (drop p.first edges))) (get_or_past cat.places c no_place past)
    ∙ none-added (changes_at cat c changes) (added-past cat c changes past)

-- with the updates up to a later version alone the changes up to a version are the same ..
pub changes-taken : (updates : List (List Change)) (version k : ℕ) → k ≤ version → changes_up_to (take version updates) k ≡ changes_up_to updates k
changes-taken updates version zero small = refl
changes-taken updates version (suc k) small =
    ap (λ (changes : List Change). changes ++ update_at (take version updates) k) (changes-taken updates version k (omega arith))
    ∙ ap (λ (next : List Change). changes_up_to updates k ++ next) (get_or-take version updates k [] (omega arith))

-- .. and so is the last update that concerns a chunk
last-taken : (cat : Catalogue) (updates : List (List Change)) (c version k : ℕ) → k ≤ version
    → last_update cat (take version updates) c k ≡ last_update cat updates c k
last-taken cat updates c version zero small = refl
last-taken cat updates c version (suc k) small =
    let next : update_changes_at cat (take version updates) c k ≡ update_changes_at cat updates c k =
    ap (λ (changes : List Change). next_changes_at cat c changes (update_at (take version updates) k)) (changes-taken updates version k (omega arith))
    ∙ ap (next_changes_at cat c (changes_up_to updates k)) (get_or-take version updates k [] (omega arith)) in
    ap (λ (last : ℕ). cond (is_some_change (update_changes_at cat (take version updates) c k)) (suc k) last) (last-taken cat updates c version k (omega arith))
    ∙ ap (λ (changes : List Change). cond (is_some_change changes) (suc k) (last_update cat updates c k)) next

-- the first updates are all there are up to their number
pub all-taken : (updates : List (List Change)) (version : ℕ) → version ≤ length updates → all_changes (take version updates) ≡ changes_up_to updates version
all-taken updates version small =
    ap (changes_up_to (take version updates)) (length-take-le version updates small) ∙ changes-taken updates version version (omega arith)

pub last-all_taken : (cat : Catalogue) (updates : List (List Change)) (c version : ℕ) → version ≤ length updates
    → last_update cat (take version updates) c (length (take version updates)) ≡ last_update cat updates c version
last-all_taken cat updates c version small =
    ap (last_update cat (take version updates) c) (length-take-le version updates small) ∙ last-taken cat updates c version version (omega arith)

-- one update more
pub all-pushed : (updates : List (List Change)) (batch : List Change) → all_changes (updates ++ batch ∷ []) ≡ all_changes updates ++ batch
all-pushed updates batch =
    let more = updates ++ batch ∷ [] in
    let long : length more ≡ suc (length updates) = length_push updates batch ∙ omega arith in
    ap (changes_up_to more) long
    ∙ ap (λ (changes : List Change). changes ++ update_at more (length updates)) (sym (changes-taken more (length updates) (length updates) (omega arith))
    ∙ ap (λ (us : List (List Change)). changes_up_to us (length updates)) (take-append_seam updates (batch ∷ [])))
    ∙ ap (λ (next : List Change). all_changes updates ++ next) (get_or_push updates batch [] (length updates) refl)
