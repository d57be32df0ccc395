use Rattle.book_orders.proofs.Chosen.{shuffled_choice, shuffled_sources, shuffled_work}
use Rattle.book_orders.proofs.Scanned.{shuffled_counts}
use Rattle.book_orders.proofs.Shuffled.{shuffled_claim, shuffled_install, shuffled_release}
use Rattle.book_orders.proofs.Shown.{shuffled_held, shuffled_report, shuffled_shows}
use Rattle.book_orders.proofs.Steps.{shuffled_full, shuffled_step}
use Rattle.book_orders.proofs.order_shows_nowhere.Goals as goal

pub returns-clause-choice : goal.returns-clause-choice
returns-clause-choice c = shuffled_choice

pub returns-clause-work : goal.returns-clause-work
returns-clause-work c = shuffled_work

pub returns-clause-sources : goal.returns-clause-sources
returns-clause-sources c = shuffled_sources

pub returns-clause-claims : goal.returns-clause-claims
returns-clause-claims c = shuffled_claim

pub returns-clause-install : goal.returns-clause-install
returns-clause-install c = shuffled_install

pub returns-clause-release : goal.returns-clause-release
returns-clause-release c = shuffled_release

pub returns-clause-full : goal.returns-clause-full
returns-clause-full c = shuffled_full

pub returns-clause-step : goal.returns-clause-step
returns-clause-step c = shuffled_step

pub returns-clause-report : goal.returns-clause-report
returns-clause-report c = shuffled_report

pub returns-clause-held : goal.returns-clause-held
returns-clause-held c = shuffled_held

pub returns-clause-shows : goal.returns-clause-shows
returns-clause-shows c = shuffled_shows

pub returns-clause-counts : goal.returns-clause-counts
returns-clause-counts c = shuffled_counts
