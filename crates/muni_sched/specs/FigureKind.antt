-- The two kinds of figure: prices, in thousandths of a dollar, and yields, in thousandths of a percent.
pub data FigureKind : Type 0 where
  Price : FigureKind
  Yield : FigureKind
