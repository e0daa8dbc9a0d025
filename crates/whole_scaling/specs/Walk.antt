-- How `scaling_from` goes over the records, from the place that it is handed as the first cone's. That from the list's own it comes to
-- `list_update_scaling` is proved: proofs/Walked. Assumes nothing.
use Rattle.std.specs.Prelude.{ℕ, ◌+◌, cond, List, eqb, length, Float}
use Rattle.answers.specs.Refusal.{◌⊳◌, unlike}
use Rattle.answers.specs.Outcome.{Reply, Scaled, all_true, false_at, Ruling, gives, refuses, Outcome, ◌⨾◌}
use Rattle.conelist.specs.declared.Kind.{Kind}
use Rattle.conelist.specs.declared.Cone.{Cone}
use Rattle.conelist.specs.declared.Place.{Place}
use Rattle.conelist.specs.Layout.{dim, block_dim, carried, fit_all}
use Rattle.conecalls.specs.Deed.{comes}
use Rattle.list_scaling.specs.Scaling.{is_true, update_scaling_deed, lengths_at}
use Rattle.walks.specs.Records.{over_records}
use Rattle.whole_scaling.specs.List.{Written, unless}

-- a walk: underway, by where the next cone lies, whose kind its record tells, and by what the buffers lent for writing hold; or over, by what it came to
pub data Walk : Type 0 where
  underway : Place → Written → Walk
  over : Outcome Scaled Written → Walk

-- the place of the next cone, which is of that kind
abbrev pub ahead_of : Place → Kind → Place
ahead_of p kind =
    record {
      no = p.no;
      index = p.index;
      start = p.start;
      kind = kind;
      block = p.block;
      entries = p.entries;
      count = p.count;
      blocks = p.blocks;
    }

-- past the cone that lies at p
abbrev pub past_of : Place → Place
past_of p =
    record {
      no = p.no;
      index = p.index + 1;
      start = p.start + dim p.kind;
      kind = p.kind;
      block = p.block + block_dim p.kind;
      entries = p.entries;
      count = p.count;
      blocks = p.blocks;
    }

-- behind the single call on that cone, by its ruling and what the buffers then hold
unfoldable pub passed_of : Place → Ruling Reply → Written → Walk
passed_of p (gives reply) holds = cond (is_true reply) (underway (past_of p) holds) (over (record { ruling = gives (false_at p.index); holds = holds }))
passed_of p (refuses n) holds = over (record { ruling = refuses n; holds = holds })

-- over one record more
unfoldable pub scaling_further : (s z : List Float) → Walk → Cone → Walk
scaling_further s z (underway p holds) c =
    let came : Outcome Reply Written = comes (ahead_of p c.kind) update_scaling_deed holds (s ⨾ z ⨾ tt) in
    passed_of (ahead_of p c.kind) came.ruling came.holds
scaling_further s z (over all) c = over all

-- behind the last record
unfoldable pub scaling_closing : Walk → Outcome Scaled Written
scaling_closing (underway p holds) = record { ruling = gives all_true; holds = holds }
scaling_closing (over all) = all

-- before the first record: of p the list's counts are taken, whatever cone it is the place of
abbrev pub started : Place → Place
started p =
    record {
      no = 0;
      index = 0;
      start = 0;
      kind = p.kind;
      block = 0;
      entries = p.entries;
      count = p.count;
      blocks = p.blocks;
    }

-- all of it, by the first cone's place: what that carries is refused, unless there is no cone, then lengths other than its counts ask for
abbrev pub scaling_from : List Cone → Place → (s z w lambda u v η d : List Float) (marks : List ℕ) → Outcome Scaled Written
scaling_from cs p s z w lambda u v η d marks =
    let holds : Written = w ⨾ lambda ⨾ u ⨾ v ⨾ η ⨾ d ⨾ marks ⨾ tt in
    unless (cond (eqb (length cs) 0) 0 (carried p) ⊳ unlike (fit_all (lengths_at p s z w lambda u v η d marks))) holds (scaling_closing (over_records (scaling_further s z) cs (underway (started p) holds)))
