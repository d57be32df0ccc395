use Rattle.group_directory.proofs.LookLaws.{look_views, look_shows, stands_looked}
use Rattle.group_directory.proofs.directory.Directory.look.Goals as goal

pub returns-clause-view : goal.returns-clause-view
returns-clause-view c = look_views c.args.self.now c.floor-floor.result c.floor-floor.ensures c.view_of.result c.view_of.ensures.view c.view_of.ensures.shown

pub returns-clause-shows : goal.returns-clause-shows
returns-clause-shows c = look_shows c.args.self.now c.floor-floor.result c.floor-floor.ensures c.view_of.result c.view_of.ensures.view c.view_of.ensures.shown

pub returns-clause-stands : goal.returns-clause-stands
returns-clause-stands c = λ changes j. let same = c.view_of.ensures.same in stands_looked c.args.self.now changes j c.view_of.new.list c.view_of.ensures.held c.view_of.ensures.book c.view_of.ensures.listed c.view_of.ensures.kept same.claims
