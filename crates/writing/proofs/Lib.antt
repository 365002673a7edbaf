mod WritingBack
