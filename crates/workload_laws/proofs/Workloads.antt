-- The bytes of a workload: their lines, the script that they are, and how many they are.
use Rattle.std.proofs.Common.{◌≡◌, ℕ, suc, ◌+◌, ◌*◌, ◌≤◌, ◌<◌, ◌%◌, List, [], ◌∷◌, ◌++◌, map, length, refl, sym, ap, subst, ◌∙◌, length-append, true, arith, mod-lt}
use Rattle.std.proofs.lemmas.List.FromFn.{length-range_with_len}
use Rattle.std.specs.List.{list_all, flat_map, range_with_len, cons_option}
use Rattle.script_reader.specs.Lines.{lines}
use Rattle.script_reader.specs.declared.script.Mode.TheVariants.{Replay}
use Rattle.script_reader.specs.Scripts.{half_done, setup_in, setups, step_in, steps_of, HasTable, AreGood, IsScript}
use Rattle.script_reader.proofs.Halves.{half_empty}
use Rattle.script_workload.specs.Workload.{statement_after, setup_line, number_at, line_at, workload}
use Rattle.workload_laws.specs.Scripts.{workload_table, step_at, steps, workload_script, is_whole}
use Rattle.workload_laws.proofs.Cut.{lines_again}
use Rattle.workload_laws.proofs.Numbers.{drawn_small}
use Rattle.workload_laws.proofs.Lines.{line_without_end, AsksFor, asks, whole_steps}
use Rattle.workload_laws.proofs.Good.{all_good, no_setups, all_steps, none_half}
use Rattle.workload_laws.proofs.SetupLine.{setup_text, setup_bytes, setup_printed, setup_form, setup_fine, setup_ends, setup_length, setup_table}

module _ (number sessions : ℕ) (low : 1 ≤ sessions) (high : sessions ≤ 64) where
  -- line i without its byte 10
  abbrev line : ℕ → List ℕ
  line i = line_without_end (1 + i % sessions) (statement_after (number_at number i))

  asks_at : (i : ℕ) → AsksFor (line i) (step_at number sessions i)
  asks_at i =
      let below : i % sessions < sessions = mod-lt i (omega (arith, low)) in
      asks (1 + i % sessions) (statement_after (number_at number i)) (omega arith) (omega arith) (drawn_small (number_at number i))

  module _ (statements : ℕ) where
    abbrev all : List (List ℕ)
    all = map line (range_with_len 0 statements)

    -- the bytes are cut again into the lines
    lines_are : lines (workload number sessions statements) ≡ setup_bytes ∷ all
    lines_are = ap (λ z. lines (z ++ flat_map (line_at number sessions) (range_with_len 0 statements))) setup_ends
        ∙ lines_again line (λ i. (asks_at i).printed) setup_bytes setup_printed (range_with_len 0 statements)

    setup_good : AreGood Replay [] (setup_bytes ∷ all)
    setup_good = (
      (rw (setup_fine, setup_form) refl, subst HasTable (sym setup_form) (workload_table, setup_table)),
      all_good line (step_at number sessions) asks_at (setup_bytes ∷ []) setup_text (ap (λ f. cons_option (setup_in f) []) setup_form)
          (λ actor. ap (λ f. half_done actor (cons_option (step_in f) [])) setup_form ∙ half_empty actor) (range_with_len 0 statements),
    )

    one_setup : setups (setup_bytes ∷ all) ≡ setup_text ∷ []
    one_setup = ap (λ f. cons_option (setup_in f) (setups all)) setup_form ∙ ap (λ z. setup_text ∷ z) (no_setups line (step_at number sessions) asks_at (range_with_len 0 statements))

    steps_are : steps_of (setup_bytes ∷ all) ≡ steps number sessions statements
    steps_are = ap (λ f. cons_option (step_in f) (steps_of all)) setup_form ∙ all_steps line (step_at number sessions) asks_at (range_with_len 0 statements)

    pub is_script : IsScript Replay (workload number sessions statements) (workload_script number sessions statements)
    is_script = record {
      good = subst (AreGood Replay []) (sym lines_are) setup_good;
      text = setup_text;
      setup = ap setups lines_are ∙ one_setup;
      table = setup_table;
      steps = sym (ap steps_of lines_are ∙ steps_are);
      finished = none_half line (step_at number sessions) asks_at half_empty (range_with_len 0 statements);
      sessions = refl;
    }

-- ---- whole steps

pub all_whole : (number sessions : ℕ) (ns : List ℕ) → list_all is_whole (map (step_at number sessions) ns) ≡ true
all_whole number sessions [] = refl
all_whole number sessions (n ∷ ns) = rw (whole_steps (1 + n % sessions) (statement_after (number_at number n))) (all_whole number sessions ns)

-- ---- how many bytes they are

most_bytes : (line : ℕ → List ℕ) → ((n : ℕ) → length (line n) ≤ 64) → (ns : List ℕ) → length (flat_map line ns) ≤ 64 * length ns
most_bytes line each [] = omega arith
most_bytes line each (n ∷ ns) = more (length (flat_map line (n ∷ ns))) (length (line n)) (length (flat_map line ns)) (length ns) (length-append (line n) (flat_map line ns)) (each n) (most_bytes line each ns)
  where
    more : (all first rest count : ℕ) → all ≡ first + rest → first ≤ 64 → rest ≤ 64 * count → all ≤ 64 * suc count
    more all first rest count is x y = omega arith

pub few_bytes : (number sessions statements : ℕ) → 1 ≤ sessions → sessions ≤ 64 → statements ≤ 200000 → length (workload number sessions statements) < 16777216
few_bytes number sessions statements low high few =
    let each : (i : ℕ) → length (line_at number sessions i) ≤ 64 = λ i.
    let l : List ℕ = line_without_end (1 + i % sessions) (statement_after (number_at number i)) in
    omega (arith, length-append l (10 ∷ []), (asks_at number sessions low high i).short) in
    let all = most_bytes (line_at number sessions) each (range_with_len 0 statements) in
    let count = length-range_with_len 0 statements in
    omega (arith, length-append setup_line (flat_map (line_at number sessions) (range_with_len 0 statements)), setup_length, all, count)
