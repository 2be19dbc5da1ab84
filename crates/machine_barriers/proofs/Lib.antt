mod HeadLemmas
