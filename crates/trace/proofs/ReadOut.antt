-- A settle by turns read out: E and M count what they say, and what is not made stands where it stood.
use mathlib.Core.Path.{refl, sym, ◌∙◌}
use mathlib.Core.List.{List, [], ◌∷◌, ◌++◌}
use Prim.Native.Nat.{ℕ}
use native.Mathlib.Omega.{arith}
use lib.ListN.{length-append}
use Rattle.program.specs.View.{View}
use Rattle.trace.specs.Trace.{Trace, places, Fresh, Store}
use Rattle.trace.specs.Turns.{Turns, at_write, past_new, kept, re_executed, ReadTurn, re_executed_reads, kept_reads, made_at, dropped_at, standing, InOrder, no_more, take, skip, AllStale, NoneStale, ReadOut}
use Rattle.trace.specs.Laws.{KeepsPlaces}
use Rattle.trace.proofs.Plain.{length_places}

in_order-++ : {xs ys zs ws : List ℕ} → InOrder xs ys → InOrder zs ws → InOrder (xs ++ zs) (ys ++ ws)
in_order-++ no_more k = k
in_order-++ (take h) k = take (in_order-++ h k)
in_order-++ (skip h) k = skip (in_order-++ h k)

none_of : (ys : List ℕ) → InOrder [] ys
none_of [] = no_more
none_of (y ∷ ys) = skip (none_of ys)

stale-++ : (rs qs : List ReadTurn) → AllStale rs → AllStale qs → AllStale (rs ++ qs)
stale-++ [] qs h k = k
stale-++ (r ∷ rs) qs h k = (h.0, stale-++ rs qs h.1 k)

not_stale-++ : (rs qs : List ReadTurn) → NoneStale rs → NoneStale qs → NoneStale (rs ++ qs)
not_stale-++ [] qs h k = k
not_stale-++ (r ∷ rs) qs h k = (h.0, not_stale-++ rs qs h.1 k)

fresh-++ : (old ps qs : List ℕ) → Fresh old ps → Fresh old qs → Fresh old (ps ++ qs)
fresh-++ old [] qs h k = k
fresh-++ old (p ∷ ps) qs h k = (h.0, fresh-++ old ps qs h.1 k)

pub read_out : {P : View} {old : List ℕ} {σ : Store} {t u : Trace} {e m : ℕ} (w : Turns P old σ t u e m) → ReadOut w
read_out at_write = record { e_counts = refl; all_stale = tt; none_stale = tt; m_counts = refl; where_none_stood = tt; all_before = refl; all_after = refl; stood = no_more; stand = no_more }
read_out {old = old} (past_new a b q r) =
    let A = read_out a in
    let B = read_out b in
    record {
      e_counts = length-append (re_executed_reads a) (re_executed_reads b) ∙ omega (arith, A.e_counts, B.e_counts);
      all_stale = stale-++ (re_executed_reads a) (re_executed_reads b) A.all_stale B.all_stale;
      none_stale = not_stale-++ (kept_reads a) (kept_reads b) A.none_stale B.none_stale;
      m_counts = length-append (made_at a) (made_at b) ∙ omega (arith, A.m_counts, B.m_counts);
      where_none_stood = fresh-++ old (made_at a) (made_at b) A.where_none_stood B.where_none_stood;
      all_before = let l = length-append (standing a) (standing b) in let k = length-append (dropped_at a) (dropped_at b) in omega (arith, l, k, A.all_before, B.all_before);
      all_after = let l = length-append (standing a) (standing b) in let k = length-append (made_at a) (made_at b) in omega (arith, l, k, A.all_after, B.all_after);
      stood = take (in_order-++ A.stood B.stood);
      stand = take (in_order-++ A.stand B.stand);
    }
read_out (kept p a) = let A = read_out a in
    record { e_counts = A.e_counts; all_stale = A.all_stale; none_stale = (p, A.none_stale); m_counts = A.m_counts; where_none_stood = A.where_none_stood; all_before = omega (arith, A.all_before); all_after = omega (arith, A.all_after); stood = take A.stood; stand = take A.stand }
read_out (re_executed {x = x} {y = y} {rest = rest} {rest' = rest'} h p run fresh i j) =
    record { e_counts = sym i; all_stale = (λ q. h (p ∙ q), tt); none_stale = tt; m_counts = length_places rest' ∙ sym j; where_none_stood = fresh; all_before = omega (arith, length_places rest); all_after = omega (arith, length_places rest'); stood = take (none_of (places rest)); stand = take (none_of (places rest')) }

pub keeps_places : KeepsPlaces
keeps_places P old σ t u e m w = read_out w
