use Rattle.hare.proofs.Ends.{asked_for_script}
use Rattle.hare.proofs.refactoring.run_script.Goals as goal

pub returns-in-Err : goal.returns-in-Err
returns-in-Err g c = λ words few.
    c.tell_unscripted.ensures words (g.S.Shelf.store c.args.shelf.now) (g.S.Shelf.store c.read_script.new.shelf) few c.in-Err.ensures.cause
    (asked_for_script _ _ _ c.read_script.ensures.only c.read_script.ensures.counted)
