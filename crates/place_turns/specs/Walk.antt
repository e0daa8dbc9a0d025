-- How `conewalk::place_of` goes over the records. That it comes to `place_of` is proved: crates/conewalk/proofs/Walked. Assumes nothing.
use Rattle.std.specs.Prelude.{ℕ, ◌+◌, ◌*◌, ◌≤◌, ◌<◌, ◌^◌, cond, ltb, eqb}
use Rattle.conelist.specs.declared.Kind.TheVariants.{Nonnegative}
use Rattle.conelist.specs.declared.Cone.{Cone}
use Rattle.conelist.specs.declared.Place.{Place}
use Rattle.conelist.specs.Layout.{dim, block_dim, bad_record, found_of}

-- before the first record: the entries, cones and block numbers seen so far are none
unfoldable pub place_opening : ℕ → ℕ → Place
place_opening cones k = found_of (cond (ltb 256 cones) 2 0) (record { no = 0; index = k; start = 0; kind = Nonnegative 0; block = 0; entries = 0; count = 0; blocks = 0 })

-- a record that is not refused is seen: the cone asked for is the one that so many cones stand before
abbrev pub place_seen : Place → Cone → Place
place_seen p c =
    let here = eqb p.count p.index in
    record {
      no = 0;
      index = p.index;
      start = cond here p.entries p.start;
      kind = cond here c.kind p.kind;
      block = cond here p.blocks p.block;
      entries = p.entries + dim c.kind;
      count = p.count + 1;
      blocks = p.blocks + block_dim c.kind;
    }

unfoldable pub place_further : Place → Cone → Place
place_further p c = cond (eqb p.no 0) (found_of (bad_record p.entries c) (place_seen p c)) p

-- behind the last record
unfoldable pub place_closing : Place → Place
place_closing p = cond (eqb p.no 0) (found_of (cond (ltb p.index p.count) 0 4) p) p

-- what a walk that is on its way has: its sums stay small
pub record Going (p : Place) : Type 0 where
  pub counted : p.count + 1 < 2 ^ 64
  pub held : p.blocks ≤ 3 * p.entries
  pub few : p.entries ≤ 65536
