-- compare/FORMAT.md: the numbers of the calls.
use Rattle.std.specs.Prelude.{ℕ, cond, eqb, Result, Ok, Err}
use Rattle.trace_words.specs.declared.calls.Call.{Call}
use Rattle.trace_words.specs.declared.calls.Call.TheVariants.{Reset, Pass, Insert, ClearWidgets, Interact, Ask, Dump, SetTally, Kernel, Rested, Exp, Park, RestoreLast, Restore}
use Rattle.trace_words.specs.declared.calls.NoSuchCall.{NoSuchCall}

-- "0 RESET, 1 PASS, 2 INSERT, 3 CLEAR_WIDGETS, 4 INTERACT, 5 ASK, 6 DUMP, 8 SET_TALLY, 9 KERNEL, 10 RESTED, 11 EXP, 12 PARK, 13 RESTORE_LAST, 14 RESTORE"
unfoldable pub call_of : ℕ → Result Call NoSuchCall
call_of n =
    cond (eqb n 0) (Ok Reset)
    (cond (eqb n 1) (Ok Pass)
    (cond (eqb n 2) (Ok Insert)
    (cond (eqb n 3) (Ok ClearWidgets)
    (cond (eqb n 4) (Ok Interact)
    (cond (eqb n 5) (Ok Ask)
    (cond (eqb n 6) (Ok Dump)
    (cond (eqb n 8) (Ok SetTally)
    (cond (eqb n 9) (Ok Kernel)
    (cond (eqb n 10) (Ok Rested)
    (cond (eqb n 11) (Ok Exp)
    (cond (eqb n 12) (Ok Park)
    (cond (eqb n 13) (Ok RestoreLast)
    (cond (eqb n 14) (Ok Restore) (Err (record {})))))))))))))))
