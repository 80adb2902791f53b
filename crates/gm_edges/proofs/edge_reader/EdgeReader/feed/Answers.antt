use Rattle.std.proofs.Common.{rules, ◌≡◌, ◌++◌, Ok, Err, refl}
use Rattle.gm_edges.specs.EdgeErrors.{IsUnlessMemory}
use Rattle.gm_edges.specs.ReaderStates.{ReaderState, after_bytes}
use Rattle.gm_edges.proofs.ReaderAnswers.{reads_on, stays_read, refused_as_ended, decided}
use Rattle.gm_edges.proofs.edge_reader.EdgeReader.feed.Goals as goal

-- a reader that is refused stays so
pub returns-in-Err-clause-reads : goal.returns-in-Err-clause-reads
returns-in-Err-clause-reads c n text read =
    let refused : c.args.self.now ≡ Err c.in-Err.error = cc in stays_read n text c.args.piece.now c.in-Err.error (rw refused at read)

pub returns-in-Err-clause-refused : goal.returns-in-Err-clause-refused
returns-in-Err-clause-refused c n text read =
    refused_as_ended {A = Unit {0}} n (text ++ c.args.piece.now) (Err c.in-Err.error) (Err c.in-Err.error) (returns-in-Err-clause-reads c n text read) refl

pub returns-in-Err-clause-decides : goal.returns-in-Err-clause-decides
returns-in-Err-clause-decides c n text rest read =
    decided {A = Unit {0}} n (text ++ c.args.piece.now) rest (Err c.in-Err.error) (Err c.in-Err.error) (returns-in-Err-clause-reads c n text read) refl

-- a reader that is refused now
pub returns-in-Err-result-clause-refused : goal.returns-in-Err-result-clause-refused
returns-in-Err-result-clause-refused c n text read =
    let reader : ReaderState = Err c.in-Err-result.error in
    let began : c.args.self.now ≡ Ok c.in-Ok.scanner = cc in
    let fed : IsUnlessMemory reader (after_bytes (Ok c.in-Ok.scanner) c.args.piece.now) = search rules in
    refused_as_ended {A = Unit {0}} n (text ++ c.args.piece.now) reader (Err c.in-Err-result.error)
    (reads_on n text c.args.piece.now c.in-Ok.scanner reader (rw began at read) fed) refl

pub returns-in-Err-result-clause-decides : goal.returns-in-Err-result-clause-decides
returns-in-Err-result-clause-decides c n text rest read =
    let reader : ReaderState = Err c.in-Err-result.error in
    let began : c.args.self.now ≡ Ok c.in-Ok.scanner = cc in
    let fed : IsUnlessMemory reader (after_bytes (Ok c.in-Ok.scanner) c.args.piece.now) = search rules in
    decided {A = Unit {0}} n (text ++ c.args.piece.now) rest reader (Err c.in-Err-result.error)
    (reads_on n text c.args.piece.now c.in-Ok.scanner reader (rw began at read) fed) refl

-- a reader that read on
pub returns-in_default-clause-refused : goal.returns-in_default-clause-refused
returns-in_default-clause-refused c n text read =
    let reader : ReaderState = Ok c.read-result.new.self in
    let began : c.args.self.now ≡ Ok c.in-Ok.scanner = cc in
    let fed : IsUnlessMemory reader (after_bytes (Ok c.in-Ok.scanner) c.args.piece.now) = search rules in
    refused_as_ended n (text ++ c.args.piece.now) reader c.read-result.result
    (reads_on n text c.args.piece.now c.in-Ok.scanner reader (rw began at read) fed) (rw c.in_default.is refl)
