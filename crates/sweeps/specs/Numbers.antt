-- A place by its numbers. Assumes nothing.
use Rattle.std.specs.Prelude.{ℕ, List, get_or}
use Rattle.conelist.specs.declared.Place.{Place}
use Rattle.records.specs.Record.{kind_of}

unfoldable pub place_by : List ℕ → Place
place_by n =
    record {
      no = 0;
      index = get_or n 0 0;
      start = get_or n 1 0;
      kind = kind_of (get_or n 2 0) (get_or n 3 0);
      block = get_or n 4 0;
      entries = get_or n 5 0;
      count = get_or n 6 0;
      blocks = get_or n 7 0;
    }
