-- The places of the code.
use Rattle.paramod.specs.Sites.{SiteTree}
use Rattle.paramod.specs.declared.site.Site.{Site}

abbrev pub site_of : Site → SiteTree
site_of s = record {
  from = s.from.now;
  equation = s.equation;
  side = s.side;
  into = s.into.now;
  literal = s.literal;
}
