-- What a reader has read of a file, and what follows of its answers.
use Rattle.std.proofs.Common.{◌≡◌, ℕ, ◌+◌, ◌-◌, ◌*◌, ◌/◌, ◌%◌, ◌≤◌, ◌<◌, List, ◌++◌, length, take, drop, min, Option, Some, None, Ok, Err, IfSome, refl, sym, ap, subst, ◌∙◌, append_assoc, [], arith, rules, inl, inr, lit<}
use Rattle.std.specs.Prelude.{IsSomeAnd, IsOk, MatchResult, Result}
use Rattle.gm_commands.specs.declared.failure.Failure.{Failure}
use Rattle.gm_commands.specs.Failures.{status_of}
use Rattle.std.specs.Option.{option_map}
use Rattle.std.specs.FinMap.{get}
use Rattle.std.proofs.lemmas.Bool.{cases_lt}
use Rattle.std.proofs.lemmas.List.{take-append-drop, take_all}
use Rattle.std.proofs.lemmas.Grind.{div_ceil_times}
use Rattle.std.proofs.Math.Seq.{take-add, take-length}
use Rattle.gm_base.specs.declared.edge.Edge.{Edge}
use Rattle.gm_outside.specs.Files.{Files, size_of, HasBytesAt}
use Rattle.gm_outside.specs.States.{DepotState}
use Rattle.gm_edges.specs.declared.edge_error.EdgeError.{EdgeError}
use Rattle.gm_edges.specs.declared.edge_error.EdgeListRefusal.{EdgeListRefusal}
use Rattle.gm_edges.specs.EdgeText.{edge_list_of, ended_edges_of}
use Rattle.gm_edges.specs.EdgeErrors.{refusal_of, IsRefusalUnlessMemory}
use Rattle.gm_edges.specs.ReaderStates.{ReaderState, HasRead}
use Rattle.gm_commands.specs.declared.failure.Refusal.TheVariants.{EdgeList}
use Rattle.gm_commands.specs.Readings.{AsksJust, DepotServed, IsReadingFailure, Reading, rest_of_reading}
use Rattle.gm_tools.specs.declared.edge_reading.TheConstants.{TEXT_PIECE}
use Rattle.gm_tools.specs.EdgeReadings.{list_refusal, edges_refusal, refusal_before_piece, edges_reading, failure_by, failure_of, ListsEdges, IsFront, HasReadFront, AreLinesTaken, ReadsAtMostPieces, ReadsInPieces}

-- nothing is read of a file of this size
start_of : (size : ℕ) (found : Option (List ℕ)) → Some size ≡ option_map length found
    → IsSomeAnd found (λ bytes. (length bytes ≡ size) × ([] ≡ take 0 bytes))
start_of size None e = cc
start_of size (Some bytes) e = (cc, refl)

start_in : (size : ℕ) (files : Option Files) (name : List ℕ) → IfSome files (λ held. Some size ≡ size_of held name)
    → IfSome files (λ held. IsFront held name size 0 [])
start_in size None name sized = tt
start_in size (Some held) name sized = start_of size (get held name) sized

pub front_at_start : (n size : ℕ) (files : Option Files) (name : List ℕ) (reader : ReaderState)
    → IfSome files (λ held. Some size ≡ size_of held name) → HasRead n [] reader → HasReadFront n files name size 0 reader
front_at_start n size files name reader sized read = record { text = []; read = read; front = start_in size files name sized }

-- no line has ended before the first byte
lines_at_start_of : (n size : ℕ) (found : Option (List ℕ)) → Some size ≡ option_map length found
    → IsSomeAnd found (λ text. IsOk (ended_edges_of (take 0 text) n))
lines_at_start_of n size None e = cc
lines_at_start_of n size (Some bytes) e = refl

pub lines_at_start : (n size : ℕ) (files : Option Files) (name : List ℕ) → IfSome files (λ held. Some size ≡ size_of held name)
    → AreLinesTaken n files name 0
lines_at_start n size None name sized = tt
lines_at_start n size (Some held) name sized = lines_at_start_of n size (get held name) sized

-- a piece behind what was read
more_of : (size pos : ℕ) (text piece : List ℕ) (found : Option (List ℕ))
    → IsSomeAnd found (λ bytes. (pos + length piece ≤ length bytes) × (piece ≡ take (length piece) (drop pos bytes)))
    → IsSomeAnd found (λ bytes. (length bytes ≡ size) × (text ≡ take pos bytes))
    → IsSomeAnd found (λ bytes. (length bytes ≡ size) × (text ++ piece ≡ take (pos + length piece) bytes))
more_of size pos text piece None there front = front
more_of size pos text piece (Some bytes) there front =
    (front.0, (λ i. front.1 i ++ there.1 i) ∙ sym (take-add pos (length piece) bytes))

-- the lines that ended in what was read with the piece
taken_of : (n size pos : ℕ) (text piece : List ℕ) (found : Option (List ℕ))
    → IsSomeAnd found (λ bytes. (pos + length piece ≤ length bytes) × (piece ≡ take (length piece) (drop pos bytes)))
    → IsSomeAnd found (λ bytes. (length bytes ≡ size) × (text ≡ take pos bytes))
    → IsOk (ended_edges_of (text ++ piece) n)
    → IsSomeAnd found (λ bytes. IsOk (ended_edges_of (take (pos + length piece) bytes) n))
taken_of n size pos text piece None there front taken = there
taken_of n size pos text piece (Some bytes) there front taken =
    subst (λ (t : List ℕ). IsOk (ended_edges_of t n)) (more_of size pos text piece (Some bytes) there front).1 taken

taken_in : (n size pos : ℕ) (text piece : List ℕ) (files : Option Files) (name : List ℕ) → IfSome files (λ held. HasBytesAt held name pos piece)
    → IfSome files (λ held. IsFront held name size pos text) → IsOk (ended_edges_of (text ++ piece) n) → AreLinesTaken n files name (pos + length piece)
taken_in n size pos text piece None name there front taken = tt
taken_in n size pos text piece (Some held) name there front taken = taken_of n size pos text piece (get held name) there front taken

pub lines_on : (n size pos : ℕ) (files : Option Files) (name piece : List ℕ) (reader : ReaderState)
    → IfSome files (λ held. HasBytesAt held name pos piece)
    → ((m : ℕ) (text : List ℕ) → HasRead m text reader → IsOk (ended_edges_of (text ++ piece) m))
    → HasReadFront n files name size pos reader → AreLinesTaken n files name (pos + length piece)
lines_on n size pos files name piece reader there taken before =
    taken_in n size pos before.text piece files name there before.front (taken n before.text before.read)

-- the file is there, and this is its text's refusal, if there is one
abbrev Refuses : ℕ → List ℕ → Option EdgeListRefusal → Files → Type 0
Refuses n name found held = (text : List ℕ) × (get held name ≡ Some text) × IfSome found (λ refusal. edge_list_of text n ≡ Err refusal)

refused_in_files : (n : ℕ) (files : Option Files) (name : List ℕ) (refusal : EdgeListRefusal) → IfSome files (Refuses n name (Some refusal))
    → IfSome files (λ held. edges_refusal n (get held name) ≡ Some (EdgeList refusal))
refused_in_files n None name refusal r = tt
refused_in_files n (Some held) name refusal r = ap (edges_refusal n) r.1 ∙ ap list_refusal r.2

-- such a reading that asked for so many sizes
abbrev asking : ℕ → ℕ → List ℕ → Reading
asking count n name = record (edges_reading n name) { files = count; asked = λ operand. count }

refused_by : (count n : ℕ) (name : List ℕ) (old new : DepotState) (found : Option EdgeListRefusal) → DepotServed old new
    → AsksJust count old new → IfSome old.files (Refuses n name found) → IsReadingFailure (asking count n name) old new (failure_by found)
refused_by count n name old new None served asked r = served
refused_by count n name old new (Some refusal) served asked r = (refl, served, refused_in_files n old.files name refusal r, asked)

-- a front, a piece behind it and the rest are the whole file
refused_of : (n size pos : ℕ) (text piece : List ℕ) (error : EdgeError) (found : Option (List ℕ))
    → IsSomeAnd found (λ bytes. (pos + length piece ≤ length bytes) × (piece ≡ take (length piece) (drop pos bytes)))
    → IsSomeAnd found (λ bytes. (length bytes ≡ size) × (text ≡ take pos bytes))
    → ((rest : List ℕ) → IsRefusalUnlessMemory {A = List Edge} error (edge_list_of (text ++ piece ++ rest) n))
    → (whole : List ℕ) × (found ≡ Some whole) × IsRefusalUnlessMemory {A = List Edge} error (edge_list_of whole n)
refused_of n size pos text piece error None there front decides = absurd there
refused_of n size pos text piece error (Some bytes) there front decides =
    (bytes, refl, subst (λ (t : List ℕ). IsRefusalUnlessMemory {A = List Edge} error (edge_list_of t n)) parts (decides rest))
  where
    rest : List ℕ
    rest = drop (length piece) (drop pos bytes)

    parts : text ++ piece ++ rest ≡ bytes
    parts = (λ i. (front.1 i ++ there.1 i) ++ rest)
        ∙ append_assoc (take pos bytes) (take (length piece) (drop pos bytes)) rest
        ∙ ap (λ (back : List ℕ). take pos bytes ++ back) (take-append-drop (length piece) (drop pos bytes))
        ∙ take-append-drop pos bytes

refused_in : (n size pos : ℕ) (text piece : List ℕ) (error : EdgeError) (files : Option Files) (name : List ℕ)
    → IfSome files (λ held. HasBytesAt held name pos piece) → IfSome files (λ held. IsFront held name size pos text)
    → ((rest : List ℕ) → IsRefusalUnlessMemory {A = List Edge} error (edge_list_of (text ++ piece ++ rest) n))
    → IfSome files (Refuses n name (refusal_of error))
refused_in n size pos text piece error None name there front decides = tt
refused_in n size pos text piece error (Some held) name there front decides =
    refused_of n size pos text piece error (get held name) there front decides

-- a reader's refusal at a piece is the refusal of the file
pub refused_at_piece : (n size pos : ℕ) (name piece : List ℕ) (old new : DepotState) (error : EdgeError) (reader : ReaderState)
    → DepotServed old new → AsksJust 0 old new → IfSome old.files (λ held. HasBytesAt held name pos piece)
    → ((m : ℕ) (text rest : List ℕ) → HasRead m text reader → IsRefusalUnlessMemory {A = List Edge} error (edge_list_of (text ++ piece ++ rest) m))
    → HasReadFront n old.files name size pos reader
    → IsReadingFailure (rest_of_reading (edges_reading n name)) old new (failure_of error)
refused_at_piece n size pos name piece old new error reader served asked there decides front =
    refused_by 0 n name old new (refusal_of error) served asked
    (refused_in n size pos front.text piece error old.files name there front.front (λ rest. decides n front.text rest front.read))

-- what was read of a file of this size is the whole file
whole_of : (size : ℕ) (text : List ℕ) (found : Option (List ℕ))
    → IsSomeAnd found (λ bytes. (length bytes ≡ size) × (text ≡ take size bytes)) → found ≡ Some text
whole_of size text None front = absurd front
whole_of size text (Some bytes) front = ap Some (sym (front.1 ∙ ap (λ (k : ℕ). take k bytes) (sym front.0) ∙ take-length bytes))

whole_in : (size : ℕ) (text : List ℕ) (files : Option Files) (name : List ℕ) → IfSome files (λ held. IsFront held name size size text)
    → IfSome files (λ held. get held name ≡ Some text)
whole_in size text None name front = tt
whole_in size text (Some held) name front = whole_of size text (get held name) front

listed : (n : ℕ) (text : List ℕ) (files : Option Files) (name : List ℕ) (edges : List Edge) → IfSome files (λ held. get held name ≡ Some text)
    → edge_list_of text n ≡ Ok edges → IfSome files (λ held. ListsEdges held name n edges)
listed n text None name edges is e = tt
listed n text (Some held) name edges is e = record { text = text; file = is; lists = e }

refuses : (n : ℕ) (text : List ℕ) (files : Option Files) (name : List ℕ) (error : EdgeError) → IfSome files (λ held. get held name ≡ Some text)
    → IsRefusalUnlessMemory {A = List Edge} error (edge_list_of text n) → IfSome files (Refuses n name (refusal_of error))
refuses n text None name error is e = tt
refuses n text (Some held) name error is e = (text, is, e)

-- the edges of a reader of the whole file are those that the file lists
pub listed_at_end : (n size : ℕ) (files : Option Files) (name : List ℕ) (edges : List Edge) (reader : ReaderState)
    → ((m : ℕ) (text : List ℕ) → HasRead m text reader → edge_list_of text m ≡ Ok edges)
    → HasReadFront n files name size size reader → IfSome files (λ held. ListsEdges held name n edges)
listed_at_end n size files name edges reader answers front =
    listed n front.text files name edges (whole_in size front.text files name front.front) (answers n front.text front.read)

-- a refusal of a reader of the whole file is the refusal of the file
pub refused_at_end : (n size : ℕ) (name : List ℕ) (old new : DepotState) (error : EdgeError) (reader : ReaderState) → DepotServed old new
    → AsksJust 1 old new → ((m : ℕ) (text : List ℕ) → HasRead m text reader → IsRefusalUnlessMemory {A = List Edge} error (edge_list_of text m))
    → HasReadFront n old.files name size size reader → IsReadingFailure (edges_reading n name) old new (failure_of error)
refused_at_end n size name old new error reader served asked answers front =
    refused_by 1 n name old new (refusal_of error) served asked
    (refuses n front.text old.files name error (whole_in size front.text old.files name front.front) (answers n front.text front.read))

-- files that list edges aren't refused
pub taken_where_listed : (n : ℕ) (files : Option Files) (name : List ℕ) (edges : List Edge) → IfSome files (λ held. ListsEdges held name n edges)
    → IfSome files (λ held. edges_refusal n (get held name) ≡ None)
taken_where_listed n None name edges l = tt
taken_where_listed n (Some held) name edges l = ap (edges_refusal n) l.file ∙ ap list_refusal l.lists

take-min : (k : ℕ) (xs : List ℕ) → take (min k (length xs)) xs ≡ take k xs
take-min k xs =
    elim (cases_lt k (length xs)) as (λ _. take (min k (length xs)) xs ≡ take k xs) [
      | inl few ↦ let e : min k (length xs) ≡ k = omega arith in ap (λ j. take j xs) e
      | inr many ↦ let e : min k (length xs) ≡ length xs = omega arith in ap (λ j. take j xs) e ∙ take-length xs ∙ sym (take_all k xs many)
    ]

-- what was read, whatever lies behind the end of the file
cut_at_end_of : (n size most : ℕ) (found : Option (List ℕ)) → IsSomeAnd found (λ bytes. length bytes ≡ size)
    → IsSomeAnd found (λ text. IsOk (ended_edges_of (take (min most size) text) n)) → IsSomeAnd found (λ text. IsOk (ended_edges_of (take most text) n))
cut_at_end_of n size most None long taken = taken
cut_at_end_of n size most (Some bytes) long taken =
    let same : take (min most size) bytes ≡ take most bytes = ap (λ (k : ℕ). take (min most k) bytes) (sym long) ∙ take-min most bytes in
    subst (λ (t : List ℕ). IsOk (ended_edges_of t n)) same taken

pub lines_to : (n size most : ℕ) (files : Option Files) (name : List ℕ) → IfSome files (λ held. Some size ≡ size_of held name)
    → AreLinesTaken n files name (min most size) → AreLinesTaken n files name most
lines_to n size most None name sized taken = tt
lines_to n size most (Some held) name sized taken = cut_at_end_of n size most (get held name) (long (get held name) sized) taken
  where
    long : (found : Option (List ℕ)) → Some size ≡ option_map length found → IsSomeAnd found (λ bytes. length bytes ≡ size)
    long None e = cc
    long (Some bytes) e = cc

-- lines that are taken before a piece aren't refused before it
unrefused_of : (n number : ℕ) (found : Option (List ℕ)) → IsSomeAnd found (λ text. IsOk (ended_edges_of (take ((number - 1) * TEXT_PIECE) text) n))
    → refusal_before_piece n number found ≡ None
unrefused_of n number None taken = refl
unrefused_of n number (Some text) taken = taken_is_none (ended_edges_of (take ((number - 1) * TEXT_PIECE) text) n) taken
  where
    taken_is_none : (answer : Result (List Edge) EdgeListRefusal) → IsOk answer → list_refusal answer ≡ None
    taken_is_none (Ok edges) is = refl
    taken_is_none (Err refusal) is = absurd (search rules)

pub unrefused_where_taken : (n number : ℕ) (files : Option Files) (name : List ℕ) → AreLinesTaken n files name ((number - 1) * TEXT_PIECE)
    → IfSome files (λ held. refusal_before_piece n number (get held name) ≡ None)
unrefused_where_taken n number None name taken = tt
unrefused_where_taken n number (Some held) name taken = unrefused_of n number (get held name) taken

-- where a piece begins that isn't behind the end
pub piece_start : (index size : ℕ) → index < size / TEXT_PIECE + min 1 (size % TEXT_PIECE) → min (index * TEXT_PIECE) size ≡ index * TEXT_PIECE
piece_start index size below = omega (arith, div_ceil_times size TEXT_PIECE (lit< tt))

-- and where it ends
pub piece_end : (index size count : ℕ) → index < size / TEXT_PIECE + min 1 (size % TEXT_PIECE) → count ≡ min (size - index * TEXT_PIECE) TEXT_PIECE
    → index * TEXT_PIECE + count ≡ min ((index + 1) * TEXT_PIECE) size
piece_end index size count below is = omega (arith, div_ceil_times size TEXT_PIECE (lit< tt))

-- what was read before this piece, of the files as they were or as they are now
pub front_at_piece : (n size index : ℕ) (files files_now : Option Files) (name : List ℕ) (reader : ReaderState) → files_now ≡ files
    → index < size / TEXT_PIECE + min 1 (size % TEXT_PIECE)
    → HasReadFront n files name size (min (index * TEXT_PIECE) size) reader → HasReadFront n files_now name size (index * TEXT_PIECE) reader
front_at_piece n size index files files_now name reader kept below front =
    subst (λ (f : Option Files). HasReadFront n f name size (index * TEXT_PIECE) reader) (sym kept)
    (subst (λ (pos : ℕ). HasReadFront n files name size pos reader) (piece_start index size below) front)

-- the lines of each piece up to one more
pub lines_more : (n index : ℕ) (files : Option Files) (name : List ℕ) → ((piece : ℕ) → piece ≤ index → AreLinesTaken n files name (piece * TEXT_PIECE))
    → AreLinesTaken n files name ((index + 1) * TEXT_PIECE) → (piece : ℕ) → piece ≤ index + 1 → AreLinesTaken n files name (piece * TEXT_PIECE)
lines_more n index files name before last piece le =
    elim (cases_lt piece (index + 1)) as (λ _. AreLinesTaken n files name (piece * TEXT_PIECE)) [
      | inl below ↦ before piece (omega arith)
      | inr here ↦ let e : index + 1 ≡ piece = omega arith in subst (λ (k : ℕ). AreLinesTaken n files name (k * TEXT_PIECE)) e last
    ]

-- what was known before each read, where at most one more was made than there are pieces whose lines are taken
pub unrefused_up_to : (n index reads reads_now : ℕ) (files : Option Files) (name : List ℕ)
    → ((piece : ℕ) → piece ≤ index → AreLinesTaken n files name (piece * TEXT_PIECE)) → reads_now ≤ reads + index + 1
    → (number : ℕ) → reads + number ≤ reads_now → IfSome files (λ held. refusal_before_piece n number (get held name) ≡ None)
unrefused_up_to n index reads reads_now files name taken few number made =
    unrefused_where_taken n number files name (taken (number - 1) (omega arith))

-- calls that read nothing, and ask for no size, leave how a text was read
few_kept : (old mid new : DepotState) (told : Option Files) (name : List ℕ) → new.reads ≡ mid.reads
    → IfSome told (λ held. ReadsAtMostPieces old mid (get held name)) → IfSome told (λ held. ReadsAtMostPieces old new (get held name))
few_kept old mid new None name unread few = tt
few_kept old mid new (Some held) name unread few = of_file (get held name) few
  where
    of_file : (found : Option (List ℕ)) → ReadsAtMostPieces old mid found → ReadsAtMostPieces old new found
    of_file None few = unread ∙ few
    of_file (Some text) few = omega (arith, unread, few)

pub pieces_kept : (n : ℕ) (name : List ℕ) (old mid new : DepotState) (status : ℕ) → new.sizes ≡ mid.sizes → new.reads ≡ mid.reads
    → ReadsInPieces n name old mid status → ReadsInPieces n name old new status
pieces_kept n name old mid new status unasked unread a = record {
  asked = omega (arith, unasked, a.asked);
  asked_once = λ other. unasked ∙ a.asked_once other;
  few = few_kept old mid new old.files name unread a.few;
  unrefused = λ number made. a.unrefused number (omega (arith, unread, made));
}

-- what holds of every status holds of that of a result
pub matched_any : (Holds : ℕ → Type 0) (result : Result ℕ Failure) → ((status : ℕ) → Holds status)
    → MatchResult result Holds (λ failure. Holds (status_of failure))
matched_any Holds (Ok status) each = each status
matched_any Holds (Err failure) each = each (status_of failure)
