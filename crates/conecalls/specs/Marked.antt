-- Calls with a mark (document 02, item 4: "Beside η and d each cone also gets a mark"): any deed, with the cone's mark beside its buffers, in two
-- ways. A call that needs a mark reads it, behind all else that it reads. A call that sets one is lent it behind all else that it writes. Assumes
-- nothing.
use Rattle.std.specs.Prelude.{ℕ, List, [], ◌∷◌, ◌++◌}
use Rattle.answers.specs.Outcome.{Gives}
use Rattle.conelist.specs.declared.Kind.{Kind}
use Rattle.conecalls.specs.Deed.{mark, Buffer, per_cone, Range, Tuple, Taking, Deed}

-- ---- one range more

-- what is given some ranges, done to what comes of them; and the same with one range more, of the buffer c, behind the others
abbrev pub under : {A B : Type 0} (bs : List Buffer) → (A → B) → Taking Range bs A → Taking Range bs B
under [] f a = f a
under (b ∷ bs) f g = λ r. under bs f (g r)

abbrev pub last : (c : Buffer) {A B : Type 0} (bs : List Buffer) → (A → Range c → B) → Taking Range bs A → Taking Range (bs ++ (c ∷ [])) B
last c [] f a = λ m. f a m
last c (b ∷ bs) f g = λ r. last c bs f (g r)

-- one thing of F more, behind the others
abbrev pub append : (F : Buffer → Type 0) (c : Buffer) (bs : List Buffer) → Tuple F bs → F c → Tuple F (bs ++ (c ∷ []))
append F c [] t x = (x, tt)
append F c (b ∷ bs) t x = (t.0, append F c bs t.1 x)

-- ---- deeds

-- "Refusals: 8 for an unfit mark, after all others": `unfit` gives the refusal's number of a mark, by the cone's kind, or 0
abbrev pub marked : (unfit : Kind → ℕ → ℕ) → Deed → Deed
marked unfit d =
    record {
      writes = d.writes;
      reads = d.reads ++ (per_cone mark ∷ []);
      early = d.early;
      late = λ kind. under d.writes (last (per_cone mark) d.reads (λ ns m. ns ++ (unfit kind m ∷ []))) (d.late kind);
      Replies = d.Replies;
      rule = λ kind. under d.writes (last (per_cone mark) d.reads (λ g m. g)) (d.rule kind);
    }

-- "set by the last call that succeeded in setting the scaling": `sets` gives the new mark, by the call's answer and the old mark. No mark is unfit
abbrev pub marking : (d : Deed) → (sets : d.Replies → ℕ → ℕ) → Deed
marking d sets =
    record {
      writes = d.writes ++ (per_cone mark ∷ []);
      reads = d.reads;
      early = d.early;
      late = λ kind. last (per_cone mark) d.writes (λ ns m. ns) (d.late kind);
      Replies = d.Replies;
      rule =
          λ kind.
          last (per_cone mark) d.writes
          (λ g m. under d.reads (λ (t : Gives d.Replies (Tuple Range d.writes)). record { reply = t.reply; news = append Range (per_cone mark) d.writes t.news (sets t.reply m) }) g)
          (d.rule kind);
    }
